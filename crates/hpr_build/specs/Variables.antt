-- The names of a program with the points that define and use them.
--
-- points_at rows i             == the points in the row i; none where there is no such row
-- AreUsers spots names rows    == for each name there is a row with the points that use it, each once
-- AreDefinitions spots names rows == for each name there is a row with the points that define it, each once
-- AreFinalNumbers exit finals names numbers == for each name there is a number: exit + k, where it is the
--                                              k-th name of `end`, and else none below exit
-- IsFreeRow spots row          == the row marks what each name that no point defines reaches from Enter
use Rattle.std.specs.Prelude.{◌≡◌, ℕ, ◌+◌, ◌≤◌, ◌↔◌, Bool, Option, Some, None, List, [], Vec, Contains, slice_index_or}
use Rattle.std.specs.Global.{Global}
use Rattle.std.specs.List.{slice_get}
use Rattle.hpr_search.specs.Marks.{IsMarked}
use Rattle.hpr_paths.specs.Spots.{Spot, defined_at, UsesAt}
use Rattle.hpr_reach.specs.Live.{IsDefined}
use Rattle.hpr_reach.specs.Reaches.{Reaches}
use Rattle.hpr_graph.specs.Graphs.{IsOnce}

abbrev pub points_of : Option (Vec ℕ Global) → List ℕ
points_of None = []
points_of (Some v) = v.items

abbrev pub points_at : List (Vec ℕ Global) → ℕ → List ℕ
points_at rows i = points_of (slice_get rows i)

abbrev pub AreUsers : List Spot → List (List ℕ) → List (Vec ℕ Global) → Type 0
AreUsers spots names rows =
    (i : ℕ) (x : List ℕ) → slice_get names i ≡ Some x → IsOnce (points_at rows i) × ((p : ℕ) → Contains (points_at rows i) p ↔ UsesAt spots p x)

abbrev pub AreDefinitions : List Spot → List (List ℕ) → List (Vec ℕ Global) → Type 0
AreDefinitions spots names rows =
    (i : ℕ) (x : List ℕ) → slice_get names i ≡ Some x → IsOnce (points_at rows i) × ((p : ℕ) → Contains (points_at rows i) p ↔ (defined_at spots p ≡ Some x))

abbrev pub AreFinalNumbers : ℕ → List (List ℕ) → List (List ℕ) → List ℕ → Type 0
AreFinalNumbers exit finals names numbers =
    (i : ℕ) (x : List ℕ) → slice_get names i ≡ Some x → (exit ≤ slice_index_or numbers i 0)
    × ((k : ℕ) → slice_get finals k ≡ Some x → slice_index_or numbers i 0 ≡ exit + k)

abbrev pub IsFreeRow : List Spot → List Bool → Type 0
IsFreeRow spots row = (y : List ℕ) → ¬ IsDefined spots y → (q : ℕ) → IsMarked row q ↔ Reaches spots y [] 0 q
