-- Items one after another: what holds of those to come, and of all.
use Rattle.std.proofs.Common.{◌≡◌, ℕ, zero, suc, ◌+◌, ◌<◌, ◌≤◌, List, [], ◌∷◌, length, drop, get_or, refl, sym, ap, ◌∙◌, arith}
use Rattle.std.proofs.lemmas.List.{drop_more}

module _ {X : Type 0} where
  pub next_to_come : (xs : List X) (i : ℕ) (x : X) → i < length xs → x ≡ get_or xs i x → drop i xs ≡ x ∷ drop (i + 1) xs
  next_to_come xs i x l is = drop_more xs i x l ∙ ap (λ (y : X). y ∷ drop (i + 1) xs) (sym is)

  pub none_to_come : (xs : List X) (i : ℕ) → length xs ≤ i → drop i xs ≡ []
  none_to_come [] zero l = refl
  none_to_come [] (suc i) l = refl
  none_to_come (x ∷ xs) zero l = absurd (omega (arith, l))
  none_to_come (x ∷ xs) (suc i) l = none_to_come xs i (omega (arith, l))
