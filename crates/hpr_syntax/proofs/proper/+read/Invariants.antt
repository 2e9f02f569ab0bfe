use Rattle.std.proofs.Common.{◌≡◌, drop}
use Rattle.hpr_syntax.specs.BodyOf.{body_of}
use Rattle.hpr_syntax.specs.Proper.{IsProperBody}
use Rattle.hpr_syntax.proofs.proper.+read.Given as goal

abbrev pub invariant-read_block-loop-stmt : goal.invariant-read_block-loop-stmt
invariant-read_block-loop-stmt l =
    (body_of l.stmt-items ≡ l.block) × (IsProperBody (body_of (drop l.stmt-index l.stmt-items)) → IsProperBody l.block)
