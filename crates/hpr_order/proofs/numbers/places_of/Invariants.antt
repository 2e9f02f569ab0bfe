use Rattle.std.proofs.Common.{◌≡◌, ◌↔◌, ◌<◌, ℕ, Some, vec_len, slice_get}
use Rattle.hpr_graph.specs.Moves.{number_at}
use Rattle.hpr_order.proofs.numbers.places_of.Given as goal

abbrev pub invariant-loop-place : goal.invariant-loop-place
invariant-loop-place l = record {
  len : vec_len l.places ≡ l.count;
  places : (n k : ℕ) → (number_at l.places.items n ≡ Some k) ↔ ((k < l.place) × (slice_get l.numbers k ≡ Some n));
}
