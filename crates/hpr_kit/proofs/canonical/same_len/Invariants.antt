use Rattle.std.proofs.Common.{◌≡◌, ◌+◌, ◌≤◌, ◌==◌, length, drop}
use Rattle.std.specs.List.{common_prefix_len}
use Rattle.hpr_kit.proofs.canonical.same_len.Given as goal

abbrev pub invariant-loop-at : goal.invariant-loop-at
invariant-loop-at l = record {
  within : l.at ≤ length l.b;
  count : common_prefix_len (λ x y. x == y) l.a l.b ≡ l.at + common_prefix_len (λ x y. x == y) (drop l.at l.a) (drop l.at l.b);
}
