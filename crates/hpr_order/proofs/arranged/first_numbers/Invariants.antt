use Rattle.std.proofs.Common.{◌≡◌, ◌<◌, ℕ, Some, vec_len, slice_get}
use Rattle.hpr_order.proofs.arranged.first_numbers.Given as goal

abbrev pub invariant-loop-number : goal.invariant-loop-number
invariant-loop-number l = record {
  len : vec_len l.numbers ≡ l.number;
  all : (k : ℕ) → k < l.number → slice_get l.numbers.items k ≡ Some k;
}
