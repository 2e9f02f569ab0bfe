-- What the variants changed, one variant after another.
use Rattle.std.proofs.Common.{◌≡◌, ℕ, ◌+◌, ◌<◌, ◌≤◌, inl, inr, List, [], ◌∷◌, ◌++◌, length, take, get_or, Contains, sym, ap, ◌∙◌, subst}
use Rattle.std.proofs.lemmas.List.{take_more, take_all}
use Rattle.hpr_graph.specs.declared.link.Link.{Link}
use Rattle.hpr_graph.specs.declared.vertex.Vertex.{Vertex}
use Rattle.hpr_graph.specs.Graphs.{Graph, Same, nothing, union_of}
use Rattle.hpr_graph.specs.Numbered.{Numbered, HasLink, graph_in, graphs_in}
use Rattle.hpr_graph.specs.Points.{IsAffected, changed}
use Rattle.hpr_graph.specs.Slices.{slice_of}
use Rattle.hpr_graph.proofs.Laws.{same_itself, same_then, same_turned, union_same}
use Rattle.hpr_graph.proofs.Lists.{in_none}

-- no vertex and no link
pub nothing_in : (g : Numbered) → g.vertices ≡ [] → ((to : ℕ) (l : Link) → ¬ HasLink g to l) → Same (graph_in g) nothing
nothing_in g none no_links = (
  λ v. (λ h. in_none v (subst (λ (vs : List Vertex). Contains vs v) none h), λ h. absurd h),
  λ e. (λ (to, l, has, is). no_links to l has, λ h. absurd h),
)

union_nothing : (g : Graph) → Same g (union_of nothing g)
union_nothing g = (λ v. (λ h. inr h, λ h. elim h [ inl none ↦ absurd none | inr x ↦ x ]), λ e. (λ h. inr h, λ h. elim h [ inl none ↦ absurd none | inr x ↦ x ]))

union_turned : (f g h : Graph) → Same (union_of f (union_of g h)) (union_of (union_of f g) h)
union_turned f g h = (
  λ v. (
    λ x. elim x [ inl a ↦ inl (inl a) | inr y ↦ elim y [ inl b ↦ inl (inr b) | inr c ↦ inr c ] ],
    λ x. elim x [ inl y ↦ elim y [ inl a ↦ inl a | inr b ↦ inr (inl b) ] | inr c ↦ inr (inr c) ],
  ),
  λ e. (
    λ x. elim x [ inl a ↦ inl (inl a) | inr y ↦ elim y [ inl b ↦ inl (inr b) | inr c ↦ inr c ] ],
    λ x. elim x [ inl y ↦ elim y [ inl a ↦ inl a | inr b ↦ inr (inl b) ] | inr c ↦ inr (inr c) ],
  ),
)

module _ (base : Graph) where
  abbrev Slice : Numbered → Graph
  Slice g = slice_of (graph_in g) (IsAffected (graph_in g) base)

  abbrev Changed : List Numbered → Graph
  Changed gs = changed base (graphs_in gs)

  changed_more : (gs : List Numbered) (g : Numbered) → Same (Changed (gs ++ g ∷ [])) (union_of (Changed gs) (Slice g))
  changed_more [] g = union_nothing (Slice g)
  changed_more (h ∷ []) g = same_itself (union_of (Slice h) (Slice g))
  changed_more (h ∷ k ∷ gs) g =
      same_then (union_of (Slice h) (Changed (k ∷ gs ++ g ∷ []))) (union_of (Slice h) (union_of (Changed (k ∷ gs)) (Slice g))) (union_of (union_of (Slice h) (Changed (k ∷ gs))) (Slice g))
      (union_same (Slice h) (Slice h) (Changed (k ∷ gs ++ g ∷ [])) (union_of (Changed (k ∷ gs)) (Slice g)) (same_itself (Slice h)) (changed_more (k ∷ gs) g))
      (union_turned (Slice h) (Changed (k ∷ gs)) (Slice g))

  -- one part more
  pub united_more : (gs : List Numbered) (i : ℕ) (g : Numbered) (old part new : Graph) → i < length gs → g ≡ get_or gs i g → Same old (Changed (take i gs)) → Same part (Slice g) → Same new (union_of old part) → Same new (Changed (take (i + 1) gs))
  united_more gs i g old part new l is is_old is_part is_new =
      let next : take (i + 1) gs ≡ take i gs ++ g ∷ [] = take_more gs i g l ∙ ap (λ (h : Numbered). take i gs ++ h ∷ []) (sym is) in
      subst (λ (hs : List Numbered). Same new (Changed hs)) (sym next)
      (same_then new (union_of old part) (Changed (take i gs ++ g ∷ [])) is_new
      (same_then (union_of old part) (union_of (Changed (take i gs)) (Slice g)) (Changed (take i gs ++ g ∷ [])) (union_same old (Changed (take i gs)) part (Slice g) is_old is_part)
      (same_turned (Changed (take i gs ++ g ∷ [])) (union_of (Changed (take i gs)) (Slice g)) (changed_more (take i gs) g))))

  pub united_all : (gs : List Numbered) (i : ℕ) (all : Graph) → length gs ≤ i → Same all (Changed (take i gs)) → Same all (Changed gs)
  united_all gs i all l = subst (λ (hs : List Numbered). Same all (Changed hs)) (take_all i gs l)
