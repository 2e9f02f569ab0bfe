-- Lists of numbers that are built front to back. `can q c` says whether c may stand next behind q.
--
-- Follows can placed rest  == each number of the rest may stand next behind the placed ones and those of the
--                             rest before it
-- IsWhole can n l          == l has n numbers, each of which may stand next behind those before it
-- IsBacktrackFree can n    == no front is a dead end, where there is a whole list at all; what may stand next
--                             is below n and isn't placed yet
use Rattle.std.specs.Prelude.{◌≡◌, ℕ, ◌<◌, Bool, true, false, List, [], ◌∷◌, ◌++◌, length}
use Rattle.hpr_forest.specs.Marks.{is_in}

module _ (can : List ℕ → ℕ → Bool) where
  abbrev pub Follows : List ℕ → List ℕ → Type 0
  Follows placed [] = Unit {0}
  Follows placed (c ∷ rest) = (can placed c ≡ true) × Follows (placed ++ c ∷ []) rest

  pub record IsWhole (n : ℕ) (l : List ℕ) : Type 0 where
    pub len : length l ≡ n
    pub follows : Follows [] l

  pub record IsBacktrackFree (n : ℕ) : Type 0 where
    pub within : (q : List ℕ) (c : ℕ) → can q c ≡ true → c < n
    pub fresh : (q : List ℕ) (c : ℕ) → can q c ≡ true → is_in q c ≡ false
    pub goes_on : (q l : List ℕ) → Follows [] q → length q < n → IsWhole n l → (c : ℕ) × (can q c ≡ true)
