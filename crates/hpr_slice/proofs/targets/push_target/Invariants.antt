use Rattle.std.proofs.Common.{◌≡◌, length, take}
use Rattle.hpr_slice.specs.Neighbours.{IsPushedFrom}
use Rattle.hpr_slice.proofs.targets.push_target.Given as goal

abbrev pub invariant-loop-link : goal.invariant-loop-link
invariant-loop-link l = record {
  count : length l.rows ≡ length l.fn.rows;
  rows : IsPushedFrom l.fn.rows (take l.link-index l.links) l.number l.rows;
}
