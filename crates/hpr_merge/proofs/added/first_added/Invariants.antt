use Rattle.std.proofs.Common.{◌≡◌, ℕ, ◌<◌, length}
use Rattle.hpr_merge.proofs.Past.{IsFoundTo}
use Rattle.hpr_merge.proofs.added.first_added.Given as goal

abbrev pub invariant-loop-to : goal.invariant-loop-to
invariant-loop-to l = record {
  count : length l.firsts.items ≡ l.count;
  found : (i : ℕ) → i < l.count → IsFoundTo l.merged l.variant l.grown l.own l.to l.waiting l.firsts.items i;
}
