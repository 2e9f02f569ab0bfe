use Rattle.std.proofs.Common.{◌≡◌, ◌++◌, drop}
use Rattle.hpr_syntax.specs.BodyOf.{body_of}
use Rattle.hpr_syntax.specs.Rows.{rows_of}
use Rattle.hpr_syntax.proofs.rows.+push.Given as goal

abbrev pub invariant-push_block-loop-at : goal.invariant-push_block-loop-at
invariant-push_block-loop-at l =
    (body_of l.stmt-items ≡ l.block) ×
    (l.rows.items ++ rows_of l.parent l.at (body_of (drop l.at l.stmt-items)) ≡ l.initial.rows.items ++ rows_of l.parent 0 l.block)
