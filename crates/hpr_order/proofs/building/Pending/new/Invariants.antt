use Rattle.std.proofs.Common.{◌≡◌, ℕ, Bool, [], vec_len, slice_get}
use Rattle.hpr_order.specs.Building.{row_in}
use Rattle.hpr_order.proofs.building.Pending.new.Given as goal

abbrev pub invariant-loop : goal.invariant-loop
invariant-loop l = record {
  len : vec_len l.branches ≡ l.counter;
  none : (c : ℕ) (b : Bool) → row_in (slice_get l.branches.items c) b ≡ [];
}
