use Rattle.std.proofs.Common.{◌≡◌, ◌↔◌, ℕ, Some, List, Contains, take, slice_get}
use Rattle.hpr_region.proofs.tables.numbers_among.Given as goal

abbrev pub invariant-loop-name : goal.invariant-loop-name
invariant-loop-name l = (r : ℕ) → Contains l.row.items r ↔ ((x : List ℕ) × (slice_get l.names r ≡ Some x) × Contains (take l.name-index l.used) x)
