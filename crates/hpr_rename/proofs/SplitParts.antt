-- Parts that are split off, swapped with themselves under their new tags: a map of vertices that takes each back.
use Rattle.std.proofs.Common.{◌≡◌, ℕ, ◌+◌, List, Contains, refl, sym, ap, ◌∙◌, subst, inl, inr, arith}
use Rattle.hpr_terms.proofs.Facts.{contains_at}
use Rattle.hpr_graph.specs.declared.vertex.Vertex.{Vertex}
use Rattle.hpr_graph.specs.declared.vertex.Vertex.TheVariants.{Init, Part}
use Rattle.hpr_graph.specs.Fits.{IsPart}
use Rattle.hpr_graph.specs.Split.{new_tag, renamed, with_new_tags, with_tag}
use Rattle.hpr_closure.proofs.Decided.{vertex_decided}
use Rattle.hpr_split.proofs.NewTags.{IsBelow, renamed_apart}
use Rattle.hpr_split.proofs.Renamed.{placed_or_stranger}
use Rattle.hpr_rename.proofs.Swaps.{swap, swap_back, swap_known, swap_new}

no_part : (x : List ℕ) → ¬ IsPart (Init x)
no_part x (t, c, is) = absurd cc

module _ (z : ℕ) (vs : List Vertex) (parts : (v : Vertex) → Contains vs v → IsPart v)
    (low : (v : Vertex) → Contains vs v → IsBelow z v) where
  abbrev pub tagged : Vertex → Vertex
  tagged v = renamed (with_new_tags z vs) v

  abbrev pub split_swap : Vertex → Vertex
  split_swap v = swap vertex_decided tagged vs v

  -- no vertex from before is one under a new tag
  not_new : (v w : Vertex) → Contains vs v → IsBelow z w → tagged v ≡ w → ⊥
  not_new v w there below same = elim (placed_or_stranger z vs v) [
    | inl (k, at, is) ↦ (
        let (t, c, part) = parts v there in
        let w_is : w ≡ Part (new_tag (z + k + 1)) c = sym same ∙ is ∙ ap (with_tag (new_tag (z + k + 1))) part in
        let le = below (new_tag (z + k + 1)) c w_is refl in
        omega (arith, le))
    | inr (new, is) ↦ new there
  ]

  pub split_swap_back : (v : Vertex) → split_swap (split_swap v) ≡ v
  split_swap_back v =
      swap_back vertex_decided tagged vs (λ u w a b e. renamed_apart z vs parts u w (low u a) (low w b) e)
      (λ u there. inr (λ again. not_new u (tagged u) there (low (tagged u) again) refl)) v

  pub split_swap_is : (v : Vertex) → IsBelow z v → split_swap v ≡ tagged v
  split_swap_is v below = elim (placed_or_stranger z vs v) [
    | inl (k, at, is) ↦ swap_known vertex_decided tagged vs v (contains_at vs k v at)
    | inr (new, is) ↦
        swap_new vertex_decided tagged vs v (λ t there e. new (subst (λ (w : Vertex). Contains vs w) e there))
        (λ t there e. not_new t v there below e)
        ∙ sym is
  ]

  -- what is no part stays
  pub split_swap_other : (v : Vertex) → ¬ IsPart v → split_swap v ≡ v
  split_swap_other v other =
      split_swap_is v (λ t c is. absurd (other (t, c, is)))
      ∙ (elim (placed_or_stranger z vs v) [ inl (k, at, is) ↦ absurd (other (parts v (contains_at vs k v at))) | inr (new, is) ↦ is ])

  pub split_swap_init : (x : List ℕ) → split_swap (Init x) ≡ Init x
  split_swap_init x = split_swap_other (Init x) (no_part x)
