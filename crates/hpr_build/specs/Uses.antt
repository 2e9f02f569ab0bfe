-- The uses of names by the vertices of a program.
--
-- IsEnd exit finals u     == the use is that of a name of `end` by its vertex, of which the first has the
--                            number of Exit's point
-- AreUses tree uses       == they are the uses of names by the vertices of the program
-- use_of x v              == the use of the name by the vertex with this number
-- point_of exit v         == the point of a vertex that uses a name: a part's is its number, and Exit that of
--                            a name of `end`
-- IsUsedFrom exit uses x p == the name is used at this point
-- AreApart exit uses      == no point has two uses of a name
-- AreUsersBy exit uses names rows == for each name there is a row with the points at which it is used, each
--                                    once
-- AreEndsBy exit uses names numbers == for each name there is a number that isn't below that of Exit's point:
--                                      that of its vertex of `end`, if it has one
use Rattle.std.specs.Prelude.{◌≡◌, ◌↔◌, ℕ, ◌+◌, ◌≤◌, Some, List, Vec, Contains, slice_get, slice_index_or, nat_lt, if◌then◌else◌}
use Rattle.std.specs.Global.{Global}
use Rattle.hpr_syntax.specs.Tree.{Tree}
use Rattle.hpr_graph.specs.Graphs.{IsOnce}
use Rattle.hpr_build.specs.declared.uses.Use.{Use}
use Rattle.hpr_build.specs.Links.{IsTargetAt}
use Rattle.hpr_build.specs.Variables.{points_at}

abbrev pub IsEnd : ℕ → List (List ℕ) → Use → Type 0
IsEnd exit finals u = (k : ℕ) × (slice_get finals k ≡ Some u.name) × (u.number ≡ exit + k)

abbrev pub AreUses : Tree → List Use → Type 0
AreUses tree uses = (u : Use) → Contains uses u ↔ ((p : ℕ) × IsTargetAt tree u.name p u.number)

abbrev pub point_of : ℕ → ℕ → ℕ
point_of exit v = if nat_lt v exit then v else exit

abbrev pub use_of : List ℕ → ℕ → Use
use_of x v = record { name = x; number = v }

abbrev pub IsUsedFrom : ℕ → List Use → List ℕ → ℕ → Type 0
IsUsedFrom exit uses x p = (v : ℕ) × Contains uses (use_of x v) × (point_of exit v ≡ p)

abbrev pub AreApart : ℕ → List Use → Type 0
AreApart exit uses =
    (x : List ℕ) (v w : ℕ) → Contains uses (use_of x v) → Contains uses (use_of x w) → point_of exit v ≡ point_of exit w → v ≡ w

abbrev pub AreUsersBy : ℕ → List Use → List (List ℕ) → List (Vec ℕ Global) → Type 0
AreUsersBy exit uses names rows =
    (i : ℕ) (x : List ℕ) → slice_get names i ≡ Some x → IsOnce (points_at rows i) × ((p : ℕ) → Contains (points_at rows i) p ↔ IsUsedFrom exit uses x p)

abbrev pub AreEndsBy : ℕ → List Use → List (List ℕ) → List ℕ → Type 0
AreEndsBy exit uses names numbers =
    (i : ℕ) (x : List ℕ) → slice_get names i ≡ Some x → (exit ≤ slice_index_or numbers i 0)
    × ((v : ℕ) → exit ≤ v → Contains uses (use_of x v) → slice_index_or numbers i 0 ≡ v)
