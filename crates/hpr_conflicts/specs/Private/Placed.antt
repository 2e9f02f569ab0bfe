-- A key in a list of keys.
--
-- IsPlaced ks k new n == the list new has the key k at the place n: it is ks, or k, which ks lacks, is put
--                        behind it
use Rattle.std.specs.Prelude.{◌≡◌, ℕ, ◌⊎◌, Some, List, [], ◌∷◌, ◌++◌, Contains, length, slice_get}
use Rattle.hpr_conflicts.specs.declared.key.Key.{Key}

abbrev pub IsPlaced : List Key → Key → List Key → ℕ → Type 0
IsPlaced ks k new n =
    (slice_get new n ≡ Some k) × ((new ≡ ks) ⊎ ((new ≡ ks ++ k ∷ []) × (n ≡ length ks) × ¬ Contains ks k))
