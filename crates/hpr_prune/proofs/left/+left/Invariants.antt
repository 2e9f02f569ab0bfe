use Rattle.std.proofs.Common.{◌≡◌}
use Rattle.hpr_syntax.specs.BodyOf.{body_of}
use Rattle.hpr_graph.specs.Numbered.{HasVertex}
use Rattle.hpr_prune.proofs.Lists.{IsLeftTo}
use Rattle.hpr_prune.proofs.left.+left.Given as goal

abbrev pub invariant-block_left-loop-stmt : goal.invariant-block_left-loop-stmt
invariant-block_left-loop-stmt l =
    (body_of l.stmt-items ≡ l.block) × IsLeftTo (HasVertex l.slice) l.block l.stmt-items l.stmt-index l.stmts.items
