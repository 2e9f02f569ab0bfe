use Rattle.std.proofs.Common.{◌≡◌, ◌≤◌, ◌++◌, drop}
use Rattle.hpr_syntax.specs.Body.{depth}
use Rattle.hpr_syntax.specs.BodyOf.{body_of}
use Rattle.hpr_syntax.specs.Print.{body_text}
use Rattle.hpr_print.proofs.blocks.+put_block.Given as goal

abbrev pub invariant-put_block-loop-stmt : goal.invariant-put_block-loop-stmt
invariant-put_block-loop-stmt l =
    (body_of l.stmt-items ≡ l.block) × (depth (body_of (drop l.stmt-index l.stmt-items)) ≤ depth l.block)
    × (l.out.items ++ body_text l.level (body_of (drop l.stmt-index l.stmt-items)) ≡ l.initial.out.items ++ body_text l.level l.block)
