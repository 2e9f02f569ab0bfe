-- Places of lists: what one more puts in, and what is taken before it.
use Rattle.std.proofs.Common.{◌≡◌, ℕ, ◌+◌, ◌↔◌, ◌⊎◌, inl, inr, Some, List, [], ◌∷◌, ◌++◌, take, Contains, slice_get, sym, subst}
use Rattle.std.proofs.lemmas.Option.{get_or_from_slice_get, slice_get_within}
use Rattle.std.proofs.lemmas.List.Elements.{Contains-append_left, Contains-append_right, Contains-append_cases}
use Rattle.hpr_terms.proofs.Facts.{taken_item}
use Rattle.hpr_graph.specs.Graphs.{IsOnce}
use Rattle.hpr_graph.proofs.Lists.{in_cons, in_here, in_later, once_tail, once_head, once_cons}

module _ {X : Type 0} where
  pub taken_at : (xs : List X) (i : ℕ) (x y : X) → slice_get xs i ≡ Some x → Contains (take (i + 1) xs) y ↔ (Contains (take i xs) y ⊎ (x ≡ y))
  taken_at xs i x y at = taken_item xs i x y (slice_get_within xs i x at) (sym (get_or_from_slice_get xs i x x at))

  -- one more in the midst of a list
  pub put_has : (front back : List X) (v w : X) → Contains (front ++ v ∷ back) w ↔ ((v ≡ w) ⊎ Contains (front ++ back) w)
  put_has front back v w = (
    λ h. elim (Contains-append_cases front (v ∷ back) w h) [
      | inl before ↦ inr (Contains-append_left front back w before)
      | inr rest ↦ elim (in_cons v w back rest) [ inl e ↦ inl e | inr later ↦ inr (Contains-append_right front back w later) ]
    ],
    λ h. elim h [
      | inl e ↦ subst (λ (z : X). Contains (front ++ v ∷ back) z) e (Contains-append_right front (v ∷ back) v (in_here v back))
      | inr old ↦ elim (Contains-append_cases front back w old) [
        | inl before ↦ Contains-append_left front (v ∷ back) w before
        | inr later ↦ Contains-append_right front (v ∷ back) w (in_later v w back later)
      ]
    ],
  )

  pub put_once : (front back : List X) (v : X) → IsOnce (front ++ back) → ¬ Contains (front ++ back) v → IsOnce (front ++ v ∷ back)
  put_once [] back v once new = once_cons v back new once
  put_once (x ∷ front) back v once new =
      once_cons x (front ++ v ∷ back)
      (λ h. elim ((put_has front back v x).0 h) [
        | inl e ↦ new (subst (λ (z : X). Contains (x ∷ front ++ back) z) (sym e) (in_here x (front ++ back)))
        | inr old ↦ once_head x (front ++ back) once old
      ])
      (put_once front back v (once_tail x (front ++ back) once) (λ h. new (in_later x v (front ++ back) h)))
