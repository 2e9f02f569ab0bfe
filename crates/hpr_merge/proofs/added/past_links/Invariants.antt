use Rattle.std.proofs.Common.{◌≡◌, ℕ, ◌<◌, length}
use Rattle.hpr_merge.specs.Added.{MoreEach}
use Rattle.hpr_merge.proofs.Past.{ArePastTo}
use Rattle.hpr_merge.proofs.added.past_links.Given as goal

abbrev pub invariant-loop-link : goal.invariant-loop-link
invariant-loop-link l = record {
  count : length l.firsts.items ≡ length l.fn.firsts.items;
  past : (i : ℕ) → i < length l.fn.firsts.items → ArePastTo (MoreEach l.grown l.own l.own_links) l.links l.link-index l.to l.waiting l.left l.fn.firsts.items l.firsts.items i;
}
