use Rattle.std.proofs.Common.{◌≡◌, length, take}
use Rattle.hpr_order.specs.Controls.{IsPushedBy}
use Rattle.hpr_order.proofs.reached.push_controlled.Given as goal

abbrev pub invariant-loop-link : goal.invariant-loop-link
invariant-loop-link l = record {
  count : length l.rows ≡ length l.fn.rows;
  rows : IsPushedBy l.fn.rows (take l.link-index l.links) l.number l.rows;
}
