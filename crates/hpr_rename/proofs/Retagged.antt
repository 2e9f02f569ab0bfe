-- A program whose split parts have their new tags: each other tag stays, and its graph is the mapped one.
use Rattle.std.proofs.Common.{◌≡◌, ℕ, ◌+◌, ◌<◌, ◌≤◌, ◌^◌, ◌==◌, Bool, true, false, max, nat_lt, if◌then◌else◌, ◌⊎◌, List, [], ◌∷◌, Some, length, Contains, slice_get, refl, sym, ap, ◌∙◌, subst, inl, inr, arith}
use Rattle.std.specs.List.{AllByRecursion}
use Rattle.std.proofs.lemmas.Bool.{cases_eq}
use Rattle.std.proofs.lemmas.List.Elements.{recursion_from_All, All-from_recursion}
use Rattle.std.proofs.lemmas.Option.{slice_get_within}
use Rattle.hpr_terms.specs.declared.tag.Tag.{Tag}
use Rattle.hpr_terms.proofs.Facts.{some_inj, in_cons}
use Rattle.hpr_syntax.specs.declared.rows.Content.{Content}
use Rattle.hpr_syntax.specs.declared.rows.Content.TheVariants.{If, While}
use Rattle.hpr_syntax.specs.Body.{Body, done, action, branch, loop}
use Rattle.hpr_syntax.specs.Issued.{Issued, issued_to, raised}
use Rattle.hpr_syntax.specs.Nests.{Says}
use Rattle.hpr_syntax.specs.Parts.{tags_of}
use Rattle.hpr_syntax.specs.Proper.{IsProperPair, IsProperIssued}
use Rattle.hpr_syntax.specs.Rows.{content_by}
use Rattle.hpr_syntax.specs.Shape.{IsProgram}
use Rattle.hpr_syntax.specs.Tree.{Tree}
use Rattle.hpr_syntax.proofs.IssuedLemmas.{raised_keeps, raised_greater, raised_others}
use Rattle.hpr_syntax.proofs.IssuedTags.{serial_of}
use Rattle.hpr_graph.specs.declared.vertex.Vertex.{Vertex}
use Rattle.hpr_graph.specs.declared.vertex.Vertex.TheVariants.{Entry, Init, Part, Final}
use Rattle.hpr_graph.specs.Fits.{IsPart}
use Rattle.hpr_graph.specs.Graphs.{Graph, Same}
use Rattle.hpr_graph.specs.ProgramGraph.{IsVertexOf, graph_of}
use Rattle.hpr_graph.specs.Split.{max_serial, new_tag, renamed, with_new_tags}
use Rattle.hpr_graph.proofs.Laws.{part_tag, same_then}
use Rattle.hpr_closure.proofs.Decided.{Decided, both}
use Rattle.hpr_closure.proofs.Decisions.{some_decided}
use Rattle.hpr_closure.proofs.EdgesDecided.{vertex_of_decided}
use Rattle.hpr_closure.proofs.ProgramWhole.{program_ends, says_once}
use Rattle.hpr_closure.proofs.TreeDecided.{tag_decided}
use Rattle.hpr_split.proofs.NewTags.{IsBelow}
use Rattle.hpr_split.proofs.Renamed.{placed_or_stranger, renamed_stranger}
use Rattle.hpr_rename.specs.Renamed.{tree_with, vertex_with, graph_with}
use Rattle.hpr_rename.specs.Replaced.{IsTagOf, IsOneToOne, AreAllowed}
use Rattle.hpr_rename.proofs.Mapped.{mapped}
use Rattle.hpr_rename.proofs.MappedAlike.{with_mapped}
use Rattle.hpr_rename.proofs.OneToOne.{renamed_graph}
use Rattle.hpr_rename.proofs.Programs.{renamed_program}
use Rattle.hpr_rename.proofs.SplitParts.{split_swap, split_swap_back, split_swap_is, split_swap_other}

-- what has a listed tag says something
abbrev SaysOr : Body → List Tag → Tag → Type 0
SaysOr b after u = ((c : Content) × Says b u c) ⊎ Contains after u

tag_says : (b : Body) (after : List Tag) (u : Tag) → Contains (tags_of b after) u → SaysOr b after u
tag_says done after u h = inr h
tag_says (action t d rest) after u h = elim (in_cons t u (tags_of rest after) h) [
  | inl same ↦ inl (content_by d, inl (sym same, refl))
  | inr later ↦ elim (tag_says rest after u later) [ inl (c, says) ↦ inl (c, inr says) | inr behind ↦ inr behind ]
]
tag_says (branch t e a b rest) after u h = elim (in_cons t u (tags_of a (tags_of b (tags_of rest after))) h) [
  | inl same ↦ inl (If e, inl (sym same, refl))
  | inr later ↦ elim (tag_says a (tags_of b (tags_of rest after)) u later) [
    | inl (c, says) ↦ inl (c, inr (inl says))
    | inr more ↦ elim (tag_says b (tags_of rest after) u more) [
      | inl (c, says) ↦ inl (c, inr (inr (inl says)))
      | inr last ↦ elim (tag_says rest after u last) [ inl (c, says) ↦ inl (c, inr (inr (inr says))) | inr behind ↦ inr behind ]
    ]
  ]
]
tag_says (loop t e b rest) after u h = elim (in_cons t u (tags_of b (tags_of rest after)) h) [
  | inl same ↦ inl (While e, inl (sym same, refl))
  | inr later ↦ elim (tag_says b (tags_of rest after) u later) [
    | inl (c, says) ↦ inl (c, inr (inl says))
    | inr last ↦ elim (tag_says rest after u last) [ inl (c, says) ↦ inl (c, inr (inr says)) | inr behind ↦ inr behind ]
  ]
]

said : (p : Tree) (u : Tag) → IsTagOf p u → (c : Content) × Says p.body u c
said p u h = elim (tag_says p.body [] u h) [ inl says ↦ says | inr none ↦ absurd (omega (arith, none.1)) ]

-- issued numbers in which author 0 has the greatest serial
abbrev Within : Issued → Type 0
Within ps = AllByRecursion IsProperPair ps

within_if : (b c : Bool) (p : ℕ × ℕ) (ps : Issued) → Within (p ∷ ps) → Within (raised 0 max_serial ps)
    → Within (if b then (0, max_serial) ∷ p ∷ ps else if c then (0, max p.1 max_serial) ∷ ps else p ∷ raised 0 max_serial ps)
within_if true c p ps h more = ((omega arith, omega arith), h)
within_if false true p ps h more = let k : p.1 < 2 ^ 32 = h.0.1 in ((omega arith, omega arith), h.1)
within_if false false p ps h more = (h.0, more)

within_raised : (ps : Issued) → Within ps → Within (raised 0 max_serial ps)
within_raised [] h = ((omega arith, omega arith), tt)
within_raised (p ∷ ps) h = within_if (nat_lt 0 p.0) (p.0 == 0) p ps h (within_raised ps h.1)

abbrev pub all_issued : Tree → Issued
all_issued p = raised 0 max_serial p.issued

proper_issued : (p : Tree) → IsProgram p → IsProperIssued (all_issued p)
proper_issued p is = (
  raised_keeps 0 max_serial p.issued (omega arith) is.proper.ascending,
  All-from_recursion IsProperPair (all_issued p) (within_raised p.issued (recursion_from_All IsProperPair p.issued is.proper.numbers)),
)

greatest_issued : (p : Tree) → IsProgram p → max_serial ≤ issued_to 0 (all_issued p)
greatest_issued p is = let g = raised_greater 0 max_serial p.issued is.proper.ascending in omega (arith, g)

still_issued : (p : Tree) → IsProgram p → (a : ℕ) → issued_to a p.issued ≤ issued_to a (all_issued p)
still_issued p is a = elim (cases_eq a 0) [
  | inl e ↦ (let g = raised_greater 0 max_serial p.issued is.proper.ascending in
      let own : issued_to a p.issued ≡ issued_to 0 p.issued = ap (λ (b : ℕ). issued_to b p.issued) e in
      let new : issued_to a (all_issued p) ≡ issued_to 0 (all_issued p) = ap (λ (b : ℕ). issued_to b (all_issued p)) e in
      omega (arith, g, own, new))
  | inr ne ↦ (let o = raised_others 0 max_serial p.issued a ne in omega (arith, o))
]

-- a vertex that is a part with the tag u
abbrev pub IsPartAt : Tag → Vertex → Type 0
IsPartAt u Entry = ⊥
IsPartAt u (Init x) = ⊥
IsPartAt u (Part t c) = t ≡ u
IsPartAt u (Final x) = ⊥

part_at : (u : Tag) (v : Vertex) → Decided (IsPartAt u v)
part_at u Entry = inr (λ h. h)
part_at u (Init x) = inr (λ h. h)
part_at u (Part t c) = tag_decided t u
part_at u (Final x) = inr (λ h. h)

-- the tag of a part
abbrev pub tag_in : Tag → Vertex → Tag
tag_in u Entry = u
tag_in u (Init x) = u
tag_in u (Part t c) = t
tag_in u (Final x) = u

module _ (z : ℕ) (vs : List Vertex) (p : Tree) where
  abbrev pub tagged : Vertex → Vertex
  tagged v = renamed (with_new_tags z vs) v

  -- the program's part with the tag u is one of them, or it isn't
  abbrev pub IsOwn : Tag → Vertex → Type 0
  IsOwn u v = IsPartAt u v × IsVertexOf p v

  abbrev pub Found : Tag → Type 0
  Found u = ((v : Vertex) × Contains vs v × IsOwn u v) ⊎ ((v : Vertex) → Contains vs v → ¬ IsOwn u v)

  pub found : (u : Tag) → Found u
  found u = some_decided (IsOwn u) (λ v. both (IsPartAt u v) (IsVertexOf p v) (part_at u v) (vertex_of_decided p v)) vs

  abbrev pub tag_by : (u : Tag) → Found u → Tag
  tag_by u (inl (v, there, own)) = tag_in u (tagged v)
  tag_by u (inr none) = u

  abbrev pub retag : Tag → Tag
  retag u = tag_by u (found u)

  abbrev pub retagged : Tree
  retagged = tree_with retag (all_issued p) p

  module _ (is : IsProgram p) where
    own_part : (u : Tag) (c : Content) → Says p.body u c → (v : Vertex) → IsPartAt u v → IsVertexOf p v → v ≡ Part u c
    own_part u c says Entry h has = absurd h
    own_part u c says (Init x) h has = absurd h
    own_part u c says (Part t d) h has =
        let same : d ≡ c = says_once p is u d c (subst (λ (s : Tag). Says p.body s d) h has) says in (λ i. Part (h i) (same i))
    own_part u c says (Final x) h has = absurd h

    -- a part keeps its content
    tagged_part : (u : Tag) (c : Content) → Part (tag_in u (tagged (Part u c))) c ≡ tagged (Part u c)
    tagged_part u c = elim (placed_or_stranger z vs (Part u c)) [
      | inl (k, at, e) ↦ ap (λ (w : Vertex). Part (tag_in u w) c) e ∙ sym e
      | inr (new, e) ↦ ap (λ (w : Vertex). Part (tag_in u w) c) e ∙ sym e
    ]

    part_by : (u : Tag) (c : Content) (k : Found u) → Says p.body u c → Part (tag_by u k) c ≡ tagged (Part u c)
    part_by u c (inl (v, there, (h, has))) says =
        ap (λ (w : Vertex). Part (tag_in u (tagged w)) c) (own_part u c says v h has) ∙ tagged_part u c
    part_by u c (inr none) says = sym (renamed_stranger z vs (Part u c) (λ there. none (Part u c) there (refl, says)))

    pub retagged_part : (u : Tag) (c : Content) → Says p.body u c → Part (retag u) c ≡ tagged (Part u c)
    retagged_part u c says = part_by u c (found u) says

    -- what a tag becomes: a new one, or it stays
    abbrev Becomes : Tag → Content → Type 0
    Becomes u c = ((k : ℕ) × (slice_get vs k ≡ Some (Part u c)) × (retag u ≡ new_tag (z + k + 1))) ⊎ (retag u ≡ u)

    becomes : (u : Tag) (c : Content) → Says p.body u c → Becomes u c
    becomes u c says = elim (placed_or_stranger z vs (Part u c)) [
      | inl (k, at, e) ↦ inl (k, at, part_tag (retag u) (new_tag (z + k + 1)) c c (retagged_part u c says ∙ e))
      | inr (new, e) ↦ inr (part_tag (retag u) u c c (retagged_part u c says ∙ e))
    ]

    module _ (low : (v : Vertex) → IsVertexOf p v → IsBelow z v) where
      -- a program's tag is no new one
      not_new : (u : Tag) (c : Content) (k : ℕ) → Says p.body u c → u ≡ new_tag (z + k + 1) → ⊥
      not_new u c k says e =
          let le = low (Part u c) says u c refl (ap (λ (t : Tag). t.author) e) in
          let n : u.serial ≡ z + k + 1 = ap (λ (t : Tag). t.serial) e in
          omega (arith, le, n)

      same_tag : (u v : Tag) (c d : Content) → Says p.body u c → Says p.body v d → Becomes u c → Becomes v d → retag u ≡ retag v → u ≡ v
      same_tag u v c d su sv (inl (k, at, e)) (inl (m, at', e')) same =
          let n : z + k + 1 ≡ z + m + 1 = ap (λ (t : Tag). t.serial) (sym e ∙ same ∙ e') in
          let place : k ≡ m = omega (arith, n) in
          part_tag u v c d (some_inj (Part u c) (Part v d) (sym at ∙ ap (slice_get vs) place ∙ at'))
      same_tag u v c d su sv (inl (k, at, e)) (inr e') same = absurd (not_new v d k sv (sym e' ∙ sym same ∙ e))
      same_tag u v c d su sv (inr e) (inl (m, at', e')) same = absurd (not_new u c m su (sym e ∙ same ∙ e'))
      same_tag u v c d su sv (inr e) (inr e') same = sym e ∙ same ∙ e'

      retag_once : IsOneToOne retag p
      retag_once u v hu hv same =
          let (c, su) = said p u hu in
          let (d, sv) = said p v hv in
          same_tag u v c d su sv (becomes u c su) (becomes v d sv) same

      module _ (most : z + length vs ≤ max_serial) where
        abbrev IsAllowed : Tag → Type 0
        IsAllowed s = (1 ≤ s.serial) × (s.serial ≤ issued_to s.author (all_issued p))

        allowed_by : (u : Tag) (c : Content) → Says p.body u c → Becomes u c → IsAllowed (retag u)
        allowed_by u c says (inl (k, at, e)) =
            let l = slice_get_within vs k (Part u c) at in
            let g = greatest_issued p is in
            let new : IsAllowed (new_tag (z + k + 1)) = (omega arith, omega (arith, l, g, most)) in
            subst IsAllowed (sym e) new
        allowed_by u c says (inr e) =
            let (one, le) = serial_of p is u c says in
            let up = still_issued p is u.author in
            let own : IsAllowed u = (one, omega (arith, le, up)) in
            subst IsAllowed (sym e) own

        allowed : AreAllowed retag (all_issued p) p
        allowed = record { numbers = proper_issued p is; tags = λ u h. (let (c, says) = said p u h in allowed_by u c says (becomes u c says)) }

        pub retagged_program : IsProgram retagged
        retagged_program = renamed_program retag (all_issued p) p retag_once allowed is

      -- each of the program's vertices gets its new tag or stays, as in the map
      module _ (parts : (v : Vertex) → Contains vs v → IsPart v) (low_too : (v : Vertex) → Contains vs v → IsBelow z v) where
        abbrev swapped : Vertex → Vertex
        swapped v = split_swap z vs parts low_too v

        swapped_by : (v : Vertex) → IsVertexOf p v → swapped v ≡ vertex_with retag v
        swapped_by Entry has = split_swap_other z vs parts low_too Entry (λ (t, c, e). absurd cc)
        swapped_by (Init x) has = split_swap_other z vs parts low_too (Init x) (λ (t, c, e). absurd cc)
        swapped_by (Part u c) has = split_swap_is z vs parts low_too (Part u c) (low (Part u c) has) ∙ sym (retagged_part u c has)
        swapped_by (Final x) has = split_swap_other z vs parts low_too (Final x) (λ (t, c, e). absurd cc)

        pub retagged_graph : Same (graph_of retagged) (mapped swapped (graph_of p))
        retagged_graph =
            let g : Graph = graph_of p in
            same_then (graph_of retagged) (graph_with retag g) (mapped swapped g) (renamed_graph retag p retag_once (all_issued p))
            (with_mapped g (program_ends p) retag swapped (split_swap_back z vs parts low_too) swapped_by)
