-- Nothing stands twice in another order of a list in which nothing does.
use Rattle.std.proofs.Common.{◌≡◌, ◌≢◌, ℕ, ◌<◌, ◌⊎◌, inl, inr, Some, List, length, set, get_or, slice_get, refl, sym, ap, ◌∙◌, subst, arith}
use Rattle.std.specs.List.{swap}
use Rattle.std.specs.List.Sorted.{IsPermutation}
use Rattle.std.proofs.lemmas.Bool.{cases_eq}
use Rattle.std.proofs.lemmas.List.{length-set}
use Rattle.std.proofs.lemmas.List.Edits.{swap_is}
use Rattle.std.proofs.lemmas.List.Sorted.{IsPermutation-keeps}
use Rattle.std.proofs.lemmas.Option.{slice_get-get_or}
use Rattle.hpr_graph.specs.Graphs.{IsOnce}
use Rattle.hpr_graph.proofs.Lists.{some_inj, get_set_same, get_set_other}

-- where the item at k stood before those at i and j changed places
abbrev Came : ℕ → ℕ → ℕ → ℕ → Type 0
Came i j k p = ((k ≡ j) × (p ≡ i)) ⊎ ((k ≢ j) × (((k ≡ i) × (p ≡ j)) ⊎ ((k ≢ i) × (p ≡ k))))

came_once : (i j k m p q : ℕ) → Came i j k p → Came i j m q → p ≡ q → k ≡ m
came_once i j k m p q (inl (a, b)) (inl (c, d)) e = omega (arith, a, b, c, d, e)
came_once i j k m p q (inl (a, b)) (inr (n, inl (c, d))) e = absurd (n (omega (arith, a, b, c, d, e)))
came_once i j k m p q (inl (a, b)) (inr (n, inr (o, d))) e = absurd (o (omega (arith, a, b, d, e)))
came_once i j k m p q (inr (n, inl (a, b))) (inl (c, d)) e = absurd (n (omega (arith, a, b, c, d, e)))
came_once i j k m p q (inr (n, inl (a, b))) (inr (n', inl (c, d))) e = omega (arith, a, b, c, d, e)
came_once i j k m p q (inr (n, inl (a, b))) (inr (n', inr (o, d))) e = absurd (n' (omega (arith, a, b, d, e)))
came_once i j k m p q (inr (n, inr (o, b))) (inl (c, d)) e = absurd (o (omega (arith, b, c, d, e)))
came_once i j k m p q (inr (n, inr (o, b))) (inr (n', inl (c, d))) e = absurd (n (omega (arith, b, c, d, e)))
came_once i j k m p q (inr (n, inr (o, b))) (inr (n', inr (o', d))) e = omega (arith, b, d, e)

module _ {X : Type 0} where
  came : (xs : List X) (i j : ℕ) → i < length xs → j < length xs → (k : ℕ) (x : X) → slice_get (swap xs i j) k ≡ Some x → (p : ℕ) × (slice_get xs p ≡ Some x) × Came i j k p
  came xs i j li lj k x at =
      let there : slice_get (set (set xs i (get_or xs j x)) j (get_or xs i x)) k ≡ Some x =
      subst (λ (ys : List X). slice_get ys k ≡ Some x) (sym (swap_is xs i j x li lj)) at in
      elim (cases_eq k j) [
        | inl e ↦ (let same = get_set_same (set xs i (get_or xs j x)) j (get_or xs i x) (omega (arith, lj, length-set xs i (get_or xs j x))) in
            let is : get_or xs i x ≡ x = some_inj (get_or xs i x) x (sym same ∙ subst (λ (m : ℕ). slice_get (set (set xs i (get_or xs j x)) j (get_or xs i x)) m ≡ Some x) e there) in
            (i, slice_get-get_or xs i x li ∙ ap Some is, inl (e, refl)))
        | inr ne ↦ (let first : slice_get (set xs i (get_or xs j x)) k ≡ Some x = sym (get_set_other (set xs i (get_or xs j x)) j k (get_or xs i x) ne) ∙ there in
            elim (cases_eq k i) [
              | inl e ↦ (let is : get_or xs j x ≡ x = some_inj (get_or xs j x) x
                  (sym (get_set_same xs i (get_or xs j x) li) ∙ subst (λ (m : ℕ). slice_get (set xs i (get_or xs j x)) m ≡ Some x) e first) in
                  (j, slice_get-get_or xs j x lj ∙ ap Some is, inr (ne, inl (e, refl))))
              | inr ne' ↦ (k, sym (get_set_other xs i k (get_or xs j x) ne') ∙ first, inr (ne, inr (ne', refl)))
            ])
      ]

  pub once_permuted : (xs ys : List X) → IsPermutation xs ys → IsOnce xs → IsOnce ys
  once_permuted xs ys moved once =
      IsPermutation-keeps xs (λ zs. IsOnce zs) once (λ zs i j li lj before k m x a b.
      (let (p, at, from) = came zs i j li lj k x a in
      let (q, at', from') = came zs i j li lj m x b in
      came_once i j k m p q from from' (before p q x at at'))) ys moved
