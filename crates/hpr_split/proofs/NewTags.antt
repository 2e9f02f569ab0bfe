-- What new tags keep: no vertex twice, serials that are issued, and one content for each tag.
use Rattle.std.proofs.Common.{◌≡◌, ◌≢◌, ℕ, ◌+◌, ◌≤◌, inl, inr, Some, List, length, map, Contains, slice_get, refl, sym, ap, ◌∙◌, subst, arith}
use Rattle.std.proofs.lemmas.Bool.{cases_eq}
use Rattle.std.proofs.lemmas.Option.{slice_get_within}
use Rattle.hpr_terms.specs.declared.tag.Tag.{Tag}
use Rattle.hpr_terms.proofs.Facts.{some_inj, contains_at, get_map, in_map, map_in}
use Rattle.hpr_syntax.specs.declared.rows.Content.{Content}
use Rattle.hpr_syntax.specs.Issued.{Issued, issued_to}
use Rattle.hpr_graph.specs.declared.vertex.Vertex.{Vertex}
use Rattle.hpr_graph.specs.declared.vertex.Vertex.TheVariants.{Part}
use Rattle.hpr_graph.specs.Fits.{IsPart}
use Rattle.hpr_graph.specs.Graphs.{IsOnce}
use Rattle.hpr_graph.specs.Split.{AreIssuedAmong, HasOneContent, new_tag, renamed, with_new_tags, with_tag}
use Rattle.hpr_graph.proofs.Laws.{part_tag}
use Rattle.hpr_split.proofs.Renamed.{placed_or_stranger, renamed_part}

once_map : {X Y : Type 0} (f : X → Y) (xs : List X) → ((x y : X) → Contains xs x → Contains xs y → f x ≡ f y → x ≡ y) → IsOnce xs → IsOnce (map f xs)
once_map f xs apart once i j y a b =
    let (v, at, is) = get_map f xs i y a in
    let (w, at', is') = get_map f xs j y b in
    let same = apart v w (contains_at xs i v at) (contains_at xs j w at') (is ∙ sym is') in
    once i j w (at ∙ ap Some same) at'

-- the serial of a part of author 0 is at most z
abbrev pub IsBelow : ℕ → Vertex → Type 0
IsBelow z v = (t : Tag) (c : Content) → v ≡ Part t c → t.author ≡ 0 → t.serial ≤ z

pub below_issued : (rank : List Vertex) (issued : Issued) → AreIssuedAmong (Contains rank) issued → (v : Vertex) → Contains rank v → IsBelow (issued_to 0 issued) v
below_issued rank issued serials v there t c is author =
    subst (λ (a : ℕ). t.serial ≤ issued_to a issued) author (serials t c (subst (Contains rank) is there)).1

pub below_ranked : (vertices rank : List Vertex) (issued : Issued) → ((t : Tag) (c : Content) → Contains vertices (Part t c) → Contains rank (Part t c)) → AreIssuedAmong (Contains rank) issued → (v : Vertex) → Contains vertices v → IsBelow (issued_to 0 issued) v
below_ranked vertices rank issued ranked serials v there t c is author =
    subst (λ (a : ℕ). t.serial ≤ issued_to a issued) author (serials t c (ranked t c (subst (Contains vertices) is there))).1

-- nobody's number is less than before
pub issued_kept : (issued more : Issued) (n : ℕ) → issued_to 0 more ≡ issued_to 0 issued + n → ((a : ℕ) → a ≢ 0 → issued_to a more ≡ issued_to a issued) → (a : ℕ) → issued_to a issued ≤ issued_to a more
issued_kept issued more n author others a = elim (cases_eq a 0) [
  | inl e ↦ (let own : issued_to a issued ≡ issued_to 0 issued = ap (λ (b : ℕ). issued_to b issued) e in
      let new : issued_to a more ≡ issued_to 0 more = ap (λ (b : ℕ). issued_to b more) e in
      omega (arith, own, new, author))
  | inr ne ↦ (let same = others a ne in omega (arith, same))
]

module _ (z : ℕ) (vs : List Vertex) (parts : (v : Vertex) → Contains vs v → IsPart v) where
  -- the tag that the k-th gets
  new_tag_is : (k : ℕ) (v : Vertex) (t : Tag) (c : Content) → slice_get vs k ≡ Some v → with_tag (new_tag (z + k + 1)) v ≡ Part t c → new_tag (z + k + 1) ≡ t
  new_tag_is k v t c at is =
      let (s, d, e) = parts v (contains_at vs k v at) in
      part_tag (new_tag (z + k + 1)) t d c (sym (ap (with_tag (new_tag (z + k + 1))) e) ∙ is)

  -- no vertex has it before
  tag_new : (k : ℕ) (w : Vertex) (t : Tag) (c : Content) → IsBelow z w → w ≡ Part t c → new_tag (z + k + 1) ≡ t → ⊥
  tag_new k w t c below is same =
      let le = below t c is (sym (ap (λ (u : Tag). u.author) same)) in
      let n : z + k + 1 ≡ t.serial = ap (λ (u : Tag). u.serial) same in
      omega (arith, le, n)

  same_place : (k m : ℕ) (v w : Vertex) → slice_get vs k ≡ Some v → slice_get vs m ≡ Some w → new_tag (z + k + 1) ≡ new_tag (z + m + 1) → v ≡ w
  same_place k m v w a b same =
      let n : z + k + 1 ≡ z + m + 1 = ap (λ (u : Tag). u.serial) same in
      let e : k ≡ m = omega (arith, n) in
      some_inj v w (sym a ∙ ap (slice_get vs) e ∙ b)

  -- vertices that differ differ behind it
  pub renamed_apart : (v w : Vertex) → IsBelow z v → IsBelow z w → renamed (with_new_tags z vs) v ≡ renamed (with_new_tags z vs) w → v ≡ w
  renamed_apart v w low low' e = elim (placed_or_stranger z vs v) [
    | inl (k, at, is) ↦ (
        let (s, c, part) = parts v (contains_at vs k v at) in
        let v_is : renamed (with_new_tags z vs) v ≡ Part (new_tag (z + k + 1)) c = is ∙ ap (with_tag (new_tag (z + k + 1))) part in
        elim (placed_or_stranger z vs w) [
          | inl (m, at', is') ↦ same_place k m v w at at' (sym (new_tag_is m w (new_tag (z + k + 1)) c at' (sym is' ∙ sym e ∙ v_is)))
          | inr (new, is') ↦ absurd (tag_new k w (new_tag (z + k + 1)) c low' (sym is' ∙ sym e ∙ v_is) refl)
        ])
    | inr (new, is) ↦ elim (placed_or_stranger z vs w) [
      | inl (m, at', is') ↦ (
          let (s, c, part) = parts w (contains_at vs m w at') in
          absurd (tag_new m v (new_tag (z + m + 1)) c low (sym is ∙ e ∙ is' ∙ ap (with_tag (new_tag (z + m + 1))) part) refl))
      | inr (new', is') ↦ sym is ∙ e ∙ is'
    ]
  ]

  pub renamed_once : (ws : List Vertex) → ((w : Vertex) → Contains ws w → IsBelow z w) → IsOnce ws → IsOnce (map (renamed (with_new_tags z vs)) ws)
  renamed_once ws low once = once_map (renamed (with_new_tags z vs)) ws (λ v w a b e. renamed_apart v w (low v a) (low w b) e) once

  -- each serial is issued, where author 0 has as many more
  module _ (issued more : Issued) (author : issued_to 0 more ≡ z + length vs) (kept : (a : ℕ) → issued_to a issued ≤ issued_to a more) where
    pub renamed_issued : (ws : List Vertex) → AreIssuedAmong (Contains ws) issued → AreIssuedAmong (Contains (map (renamed (with_new_tags z vs)) ws)) more
    renamed_issued ws serials t c h =
        let (v, there, is) = map_in (renamed (with_new_tags z vs)) ws (Part t c) h in
        elim (placed_or_stranger z vs v) [
          | inl (k, at, e) ↦
              subst (λ (u : Tag). (1 ≤ u.serial) × (u.serial ≤ issued_to u.author more)) (new_tag_is k v t c at (sym e ∙ is))
              (omega arith, omega (arith, author, slice_get_within vs k v at))
          | inr (new, e) ↦ (
              let (one, low) = serials t c (subst (Contains ws) (sym e ∙ is) there) in
              let up = kept t.author in
              (one, omega (arith, low, up)))
        ]

  -- no tag has two contents, where none has among those that keep theirs
  pub renamed_one_content : (ws : List Vertex) (marked : Vertex → Type 0) → ((w : Vertex) → Contains ws w → IsBelow z w) → ((w : Vertex) → Contains ws w → IsPart w → ¬ Contains vs w → marked w) → HasOneContent marked
      → HasOneContent (Contains (map (renamed (with_new_tags z vs)) ws))
  renamed_one_content ws marked low known one t c d hc hd =
      let (v, there, is) = map_in (renamed (with_new_tags z vs)) ws (Part t c) hc in
      let (w, there', is') = map_in (renamed (with_new_tags z vs)) ws (Part t d) hd in
      elim (placed_or_stranger z vs v) [
        | inl (k, at, e) ↦ (
            let tag : new_tag (z + k + 1) ≡ t = new_tag_is k v t c at (sym e ∙ is) in
            elim (placed_or_stranger z vs w) [
              | inl (m, at', e') ↦ (
                  let tag' : new_tag (z + m + 1) ≡ t = new_tag_is m w t d at' (sym e' ∙ is') in
                  let same : v ≡ w = same_place k m v w at at' (tag ∙ sym tag') in
                  let parts_same : Part t c ≡ Part t d = sym is ∙ ap (renamed (with_new_tags z vs)) same ∙ is' in
                  cc)
              | inr (new, e') ↦ absurd (tag_new k w t d (low w there') (sym e' ∙ is') tag)
            ])
        | inr (new, e) ↦ elim (placed_or_stranger z vs w) [
          | inl (m, at', e') ↦ absurd (tag_new m v t c (low v there) (sym e ∙ is) (new_tag_is m w t d at' (sym e' ∙ is')))
          | inr (new', e') ↦ (
              let v_is : v ≡ Part t c = sym e ∙ is in
              let w_is : w ≡ Part t d = sym e' ∙ is' in
              one t c d (subst marked v_is (known v there (t, c, v_is) new)) (subst marked w_is (known w there' (t, d, w_is) new')))
        ]
      ]

-- every part of a graph is in the rank
pub renamed_ranked : (rs : List (Vertex × Tag)) (vertices rank : List Vertex) → ((t : Tag) (c : Content) → Contains vertices (Part t c) → Contains rank (Part t c)) → (t : Tag) (c : Content) → Contains (map (renamed rs) vertices) (Part t c) → Contains (map (renamed rs) rank) (Part t c)
renamed_ranked rs vertices rank ranked t c h =
    let (v, there, is) = map_in (renamed rs) vertices (Part t c) h in
    let (s, was) = renamed_part rs v t c is in
    let listed : Contains rank v = subst (Contains rank) (sym was) (ranked s c (subst (Contains vertices) was there)) in
    subst (Contains (map (renamed rs) rank)) is (in_map (renamed rs) rank v listed)
