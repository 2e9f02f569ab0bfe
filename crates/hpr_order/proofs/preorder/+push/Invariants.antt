use Rattle.std.proofs.Common.{◌≡◌, ◌++◌, drop}
use Rattle.hpr_syntax.specs.BodyOf.{body_of}
use Rattle.hpr_order.proofs.PartTurns.{Parts}
use Rattle.hpr_order.proofs.preorder.+push.Given as goal

abbrev pub invariant-push_block-loop-stmt : goal.invariant-push_block-loop-stmt
invariant-push_block-loop-stmt l = record {
  view : l.block ≡ body_of l.stmt-items;
  parts : l.into.items ++ Parts (body_of (drop l.stmt-index l.stmt-items)) ≡ l.fn.into.items ++ Parts l.block;
}
