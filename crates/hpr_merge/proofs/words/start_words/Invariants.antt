use Rattle.std.proofs.Common.{◌≡◌, ℕ, ◌<◌, ◌↔◌, Some, length, slice_get, slice_index}
use Rattle.hpr_merge.specs.Words.{HasBit}
use Rattle.hpr_merge.proofs.words.start_words.Given as goal

abbrev pub invariant-loop-at : goal.invariant-loop-at
invariant-loop-at l = record {
  count : length l.words.items ≡ l.count;
  bits : (x i : ℕ) → HasBit (slice_index l.words.items x) i ↔ ((i < l.at) × (slice_get l.points i ≡ Some x));
}
