-- Which parts of a graph get new tags: one list of them; none where no tag has two contents; and no tag has two contents behind it.
use Rattle.std.proofs.Common.{◌≡◌, ℕ, ◌+◌, ◌≤◌, ◌⊎◌, inl, inr, List, [], ◌∷◌, length, map, Contains, refl, sym, ap, ◌∙◌, subst, arith}
use Rattle.std.specs.declared.cmp.Ordering.TheVariants.{Less, Equal}
use Rattle.hpr_terms.specs.declared.tag.Tag.{Tag}
use Rattle.hpr_terms.proofs.Facts.{compared, in_map, in_none, in_cons, in_here, in_later}
use Rattle.hpr_syntax.specs.declared.rows.Content.{Content}
use Rattle.hpr_graph.specs.declared.vertex.Vertex.{Vertex}
use Rattle.hpr_graph.specs.declared.vertex.Vertex.TheVariants.{Part}
use Rattle.hpr_graph.specs.Fits.{IsPart}
use Rattle.hpr_graph.specs.Graphs.{Graph}
use Rattle.hpr_graph.specs.Order.{vertex_cmp}
use Rattle.hpr_graph.specs.Split.{AreRenamed, AreRenamedWithin, AreSplitParts, HasOneContent, IsSplitOff, KeepsTag, max_serial, renamed, split_graph, with_new_tags}
use Rattle.hpr_graph.specs.Whole.{AreAll}
use Rattle.hpr_graph.proofs.Bounded.{Bounded, of_each, of_one, of_within}
use Rattle.hpr_graph.proofs.PutInOrder as put
use Rattle.hpr_graph.proofs.VertexOrder.{vertex_itself, vertex_tied, vertex_total}
use Rattle.hpr_split.proofs.Answer.{never_past, one_split}
use Rattle.hpr_split.proofs.NewTags.{IsBelow, renamed_one_content}
use Rattle.hpr_split.proofs.Renamed.{new_tags_length}

-- they are parts, and their new tags are in turn
pub in_turn : (g : Graph) (P : Vertex → Type 0) (z : ℕ) (rs : List (Vertex × Tag)) → AreRenamedWithin g P z rs → (us : List Vertex) × (rs ≡ with_new_tags z us) × ((v : Vertex) → Contains us v → IsPart v)
in_turn g P z rs (inl ((us, split, is), fits)) = (us, is, λ v h. ((split.1 v).0 h).1)
in_turn g P z rs (inr (past, none)) = ([], none, λ v h. absurd (in_none v h))

-- they are one list
renamed_fit : (z : ℕ) (us : List Vertex) (rs : List (Vertex × Tag)) → rs ≡ with_new_tags z us → z + length rs ≤ max_serial → z + length us ≤ max_serial
renamed_fit z us rs is fits =
    let count : length rs ≡ length us = ap (λ (qs : List (Vertex × Tag)). length qs) is ∙ new_tags_length z us in
    omega (arith, fits, count)

module _ (g : Graph) (P : Vertex → Type 0) (z : ℕ) where
  pub one_renamed : (rs ss : List (Vertex × Tag)) → AreRenamedWithin g P z rs → AreRenamedWithin g P z ss → rs ≡ ss
  one_renamed rs ss (inl ((us, split, is), fits)) (inl ((ws, other, so), fits')) = is ∙ ap (with_new_tags z) (one_split g P us ws split other) ∙ sym so
  one_renamed rs ss (inl ((us, split, is), fits)) (inr (past, none)) = absurd (never_past g P z us split (renamed_fit z us rs is fits) past)
  one_renamed rs ss (inr (past, none)) (inl ((ws, other, so), fits)) = absurd (never_past g P z ws other (renamed_fit z ws ss so fits) past)
  one_renamed rs ss (inr (past, none)) (inr (past', none')) = none ∙ sym none'

  -- there is such a list where they lie within bounds
  within_or_past : (us : List Vertex) → AreSplitParts g P us → (rs : List (Vertex × Tag)) × AreRenamedWithin g P z rs
  within_or_past us split = elim (compared max_serial (z + length us)) [
    | inl past ↦ ([], inr ((us, split, past), refl))
    | inr rest ↦ (
        let fits : z + length us ≤ max_serial = elim rest [ inl e ↦ omega (arith, e) | inr more ↦ omega (arith, more) ] in
        (with_new_tags z us, inl ((us, split, refl), omega (arith, fits, new_tags_length z us))))
  ]

  pub some_renamed : Bounded (λ v. g.vertex v × IsPart v × P v) → ¬ (¬ ((rs : List (Vertex × Tag)) × AreRenamedWithin g P z rs))
  some_renamed bounded n =
      put.ascending vertex_cmp vertex_total vertex_tied (λ v. g.vertex v × IsPart v × P v) bounded (λ us.
      n (within_or_past us.0 (us.1, us.2)))

-- the vertices of the split graph lie within bounds where those of the graph do
pub split_bounded : (rs : List (Vertex × Tag)) (g : Graph) → Bounded g.vertex → Bounded (split_graph rs g).vertex
split_bounded rs g bounded =
    of_within (split_graph rs g).vertex (λ w. (v : Vertex) × g.vertex v × (w ≡ renamed rs v)) (λ w (v, has, is). (v, has, sym is))
    (of_each g.vertex (λ v w. w ≡ renamed rs v) bounded (λ v has. of_one (renamed rs v)))

-- nothing is split off where no tag has two contents
never_split_off : (hs : List Graph) (g : Graph) → HasOneContent g.vertex → (v : Vertex) → ¬ IsSplitOff hs g v
never_split_off hs g one v (t, (c, v_is, has), (w, (d, w_is, has'), other), gone) =
    let same : d ≡ c = one t d c (subst g.vertex w_is has') (subst g.vertex v_is has) in
    other (w_is ∙ ap (λ (k : Content). Part t k) same ∙ sym v_is)

no_members : (vs : List Vertex) → ((v : Vertex) → ¬ Contains vs v) → vs ≡ []
no_members [] none = refl
no_members (v ∷ vs) none = absurd (none v (in_here v vs))

pub none_renamed : (hs : List Graph) (g : Graph) (z : ℕ) (rs : List (Vertex × Tag)) → HasOneContent g.vertex → AreRenamedWithin g (IsSplitOff hs g) z rs → rs ≡ []
none_renamed hs g z rs one (inl ((us, split, is), fits)) =
    is ∙ ap (with_new_tags z) (no_members us (λ v h. never_split_off hs g one v ((split.1 v).0 h).2))
none_renamed hs g z rs one (inr (past, none)) = none

-- one part keeps a tag
one_keeps : (hs : List Graph) (g : Graph) (t : Tag) (v w : Vertex) → AreAll (λ h. HasOneContent h.vertex) hs → KeepsTag hs g t v → KeepsTag hs g t w → v ≡ w
one_keeps [] g t v w all h k = absurd h
one_keeps (h ∷ hs) g t v w all (inl ((c, v_is, has), there)) (inl ((d, w_is, has'), there')) =
    v_is ∙ ap (λ (k : Content). Part t k) (all.0 t c d (subst h.vertex v_is there) (subst h.vertex w_is there')) ∙ sym w_is
one_keeps (h ∷ hs) g t v w all (inl (has, there)) (inr (none, later)) = absurd (none (v, has, there))
one_keeps (h ∷ hs) g t v w all (inr (none, later)) (inl (has, there)) = absurd (none (w, has, there))
one_keeps (h ∷ hs) g t v w all (inr (none, later)) (inr (none', later')) = one_keeps hs g t v w all.1 later later'

-- so no tag has two contents among the parts that aren't split off, nor in the split graph
apart : (v w : Vertex) → (vertex_cmp v w ≡ Less) ⊎ (vertex_cmp w v ≡ Less) → ¬ (v ≡ w)
apart v w h e = elim h [
  | inl less ↦ (let both : Less ≡ Equal = sym less ∙ ap (vertex_cmp v) (sym e) ∙ vertex_itself v in absurd cc)
  | inr more ↦ (let both : Less ≡ Equal = sym more ∙ ap (λ (x : Vertex). vertex_cmp x v) (sym e) ∙ vertex_itself v in absurd cc)
]

module _ (hs : List Graph) (g : Graph) (all : AreAll (λ h. HasOneContent h.vertex) hs) where
  abbrev Stays : Vertex → Type 0
  Stays v = g.vertex v × ¬ IsSplitOff hs g v

  never_both : (t : Tag) (c d : Content) → Stays (Part t c) → Stays (Part t d) → ¬ (Part t c ≡ Part t d) → ⊥
  never_both t c d (has, stays) (has', stays') differ =
      stays (
        t,
        (c, refl, has),
        (Part t d, (d, refl, has'), λ e. differ (sym e)),
        λ kept.
            stays' (
              t,
              (d, refl, has'),
              (Part t c, (c, refl, has), differ),
              λ kept'.
                  differ (one_keeps hs g t (Part t c) (Part t d) all kept kept'),
            ),
      )

  one_content_stays : HasOneContent Stays
  one_content_stays t c d h k = elim (put.compared vertex_cmp vertex_total vertex_tied (Part t c) (Part t d)) [
    | inl same ↦ (let is : Part t c ≡ Part t d = same in cc)
    | inr differ ↦ absurd (never_both t c d h k (apart (Part t c) (Part t d) differ))
  ]

  module _ (z : ℕ) (below : (v : Vertex) → g.vertex v → IsBelow z v) (rs : List (Vertex × Tag)) (are : AreRenamed g (IsSplitOff hs g) z rs) where
    both_in : (v w : Vertex) → g.vertex v → g.vertex w → (x : Vertex) → Contains (v ∷ w ∷ []) x → g.vertex x
    both_in v w has has' x h = elim (in_cons v x (w ∷ []) h) [
      | inl e ↦ subst g.vertex e has
      | inr later ↦ elim (in_cons w x [] later) [ inl e ↦ subst g.vertex e has' | inr none ↦ absurd (in_none x none) ]
    ]

    pub one_content_behind : HasOneContent (split_graph rs g).vertex
    one_content_behind t c d (v, has, v_is) (w, has', w_is) =
        let us : List Vertex = are.0 in
        let inside = both_in v w has has' in
        let tagged : (x : Vertex) (k : Content) → renamed rs x ≡ Part t k → Contains (v ∷ w ∷ []) x → Contains (map (renamed (with_new_tags z us)) (v ∷ w ∷ [])) (Part t k) =
        λ x k is there.
        subst (Contains (map (renamed (with_new_tags z us)) (v ∷ w ∷ []))) (ap (λ (qs : List (Vertex × Tag)). renamed qs x) (sym are.2) ∙ is)
        (in_map (renamed (with_new_tags z us)) (v ∷ w ∷ []) x there) in
        renamed_one_content z us (λ x h. ((are.1.1 x).0 h).1) (v ∷ w ∷ []) Stays (λ x h. below x (inside x h))
        (λ x h part fresh. (inside x h, λ off. fresh ((are.1.1 x).1 (inside x h, part, off)))) one_content_stays t c d
        (tagged v c v_is (in_here v (w ∷ []))) (tagged w d w_is (in_later v w (w ∷ []) (in_here w [])))
