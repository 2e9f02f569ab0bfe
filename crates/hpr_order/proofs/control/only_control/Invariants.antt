use Rattle.std.proofs.Common.{take}
use Rattle.hpr_order.proofs.Onlys.{IsOnlyIn}
use Rattle.hpr_order.proofs.control.only_control.Given as goal

abbrev pub invariant-loop-link : goal.invariant-loop-link
invariant-loop-link l = IsOnlyIn (take l.link-index l.row) l.found
