-- Names whose value from before the program is used.
--
-- IsDefined spots x      == some point defines x
-- IsLive spots x         == an undisturbed path for x goes from Enter to a point that uses x
-- Below P n              == some number below n has P
-- AreUsersOf spots names rows == for each name there is a row with the points that use it
-- IsUsedAfterAll spots x == some path goes from Enter to a point that uses x, whatever is defined in between
use Rattle.std.specs.Prelude.{◌≡◌, ℕ, ◌<◌, ◌↔◌, Some, List, Contains, length}
use Rattle.std.specs.List.{slice_get}
use Rattle.hpr_search.specs.Rows.{numbers_at}
use Rattle.hpr_paths.specs.declared.spot.Step.{Step}
use Rattle.hpr_paths.specs.Spots.{Spot, defined_at, UsesAt}
use Rattle.hpr_paths.specs.Numbers.{NumberPath, NumberUndisturbed}

abbrev pub Below : (ℕ → Type 0) → ℕ → Type 0
Below P n = (p : ℕ) × (p < n) × P p

abbrev pub IsDefined : List Spot → List ℕ → Type 0
IsDefined spots x = (p : ℕ) × (defined_at spots p ≡ Some x)

abbrev pub IsLive : List Spot → List ℕ → Type 0
IsLive spots x = (u : ℕ) × (steps : List Step) × NumberUndisturbed spots x 0 u steps × UsesAt spots u x

abbrev pub IsUsedAfterAll : List Spot → List ℕ → Type 0
IsUsedAfterAll spots x = (u : ℕ) × (steps : List Step) × NumberPath spots 0 u steps × UsesAt spots u x

abbrev pub AreUsersOf : List Spot → List (List ℕ) → List (List ℕ) → Type 0
AreUsersOf spots names rows =
    (i : ℕ) (x : List ℕ) → slice_get names i ≡ Some x
    → (i < length rows) × ((p : ℕ) → Contains (numbers_at rows i) p ↔ UsesAt spots p x)
