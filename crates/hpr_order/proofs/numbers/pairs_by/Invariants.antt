use Rattle.std.proofs.Common.{◌≡◌, ◌↔◌, ◌<◌, ℕ, Some, Contains, slice_get}
use Rattle.hpr_graph.specs.Numbered.{row_of}
use Rattle.hpr_order.specs.Numbers.{IsAskedBy}
use Rattle.hpr_order.proofs.numbers.pairs_by.Given as goal

abbrev pub invariant-loop-place : goal.invariant-loop-place
invariant-loop-place l = (s t : ℕ) → Contains l.pairs.items (s, t) ↔ ((t < l.place) × ((n : ℕ) × (slice_get l.numbers t ≡ Some n) × IsAskedBy l.places (row_of l.graph n) s))
