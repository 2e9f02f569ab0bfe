use Rattle.std.proofs.Common.{◌≡◌, ℕ, ◌<◌, Some, length, slice_get}
use Rattle.hpr_merge.specs.Words.{HasBit}
use Rattle.hpr_merge.proofs.added.put_first.Given as goal

abbrev pub invariant-loop-at : goal.invariant-loop-at
invariant-loop-at l = record {
  count : length l.firsts.items ≡ length l.fn.firsts.items;
  kept : (i : ℕ) → ¬ HasBit l.bits i → slice_get l.firsts.items i ≡ slice_get l.fn.firsts.items i;
  put : (i : ℕ) → i < l.at → HasBit l.bits i → slice_get l.firsts.items i ≡ Some (Some l.first);
}
