-- The way to the first leaf: at each step all leaves are left.
use Rattle.std.proofs.Common.{◌≡◌, ℕ, ◌+◌, ◌-◌, ◌<◌, ◌≤◌, Bool, true, false, List, [], ◌∷◌, ◌++◌, length, inl, inr, refl, sym, ap, ◌∙◌, arith}
use Rattle.hpr_forest.specs.Choices.{Follows, IsBacktrackFree}
use Rattle.hpr_forest.specs.Cuts.{IsFirstClear, IsFirstLeafAt, IsLive, leaves_of, pick}
use Rattle.hpr_forest.proofs.CutStates.{IsNext, is_found, is_whole_child, looked_past}
use Rattle.hpr_forest.proofs.CutSteps.{all_done, at_start, cuts, placed, rest}

-- a list that isn't empty has a last number
last_of : (x : ℕ) (xs : List ℕ) → (front : List ℕ) × (l : ℕ) × (x ∷ xs ≡ front ++ l ∷ [])
last_of x [] = ([], x, refl)
last_of x (y ∷ ys) = let (front, l, is) = last_of y ys in (x ∷ front, l, ap (λ (zs : List ℕ). x ∷ zs) is)

abbrev pub AreAllLeft : (List ℕ → ℕ → Bool) → ℕ → (List ℕ → ℕ → Bool) → List ℕ → Type 0
AreAllLeft can n clash q = leaves_of can n clash ≡ rest can n clash q 0

module _ (can : List ℕ → ℕ → Bool) (fits : List ℕ → Type 0) (n : ℕ) (clash : List ℕ → ℕ → Bool) (it : IsBacktrackFree can n) (live : IsLive can n) where
  abbrev Next : List ℕ → ℕ → Type 0
  Next q d = IsNext can fits n clash it live q 0 d

  abbrev Left : List ℕ → Type 0
  Left = AreAllLeft can n clash

  pub all_at_start : (q : List ℕ) → q ≡ [] → 0 < n → Left q
  all_at_start q e h = at_start can n clash h ∙ ap (λ (p : List ℕ). rest can n clash p 0) (sym e)

  pub first_at : (q : List ℕ) (d : ℕ) → Next q d → clash q d ≡ true → Left q → IsFirstLeafAt can n clash q d
  first_at q d next is all = (
    rest can n clash q (d + 1),
    all ∙ is_found can fits n clash it live clash q 0 d next
        ∙ ap (λ b. pick b (q ++ d ∷ []) (cuts can n clash (n - (length q + 1)) (q ++ d ∷ [])) ++ rest can n clash q (d + 1)) is,
  )

  pub goes_on : (q q' : List ℕ) (d : ℕ) → Next q d → clash q d ≡ false → length q + 1 < n → q' ≡ q ++ d ∷ [] → Left q → Left q'
  goes_on q q' d next free short e all =
      all ∙ is_found can fits n clash it live clash q 0 d next ∙ placed can n clash q d free short ∙ ap (λ (p : List ℕ). rest can n clash p 0) (sym e)

  pub clear_at : (q : List ℕ) (d : ℕ) → length q + 1 ≡ n → Next q d → clash q d ≡ false → Left q → IsFirstClear can n clash
  clear_at q d len next free all =
      inr (inr (q, d, (rest can n clash q (d + 1), all ∙ is_whole_child can fits n clash it live clash q 0 d len next), free))

  -- behind a number that is placed there is a next one
  pub none_at_all : (q : List ℕ) → Follows can [] q → length q < n → ((d : ℕ) → 0 ≤ d → d < n → can q d ≡ false) → Left q → IsFirstClear can n clash
  none_at_all [] f short none all = inl (all ∙ all_done can n clash 0 none)
  none_at_all (x ∷ xs) f short none all =
      let (front, l, is) = last_of x xs in absurd (omega (arith, looked_past can fits n clash it live (x ∷ xs) front l 0 is f short none))
