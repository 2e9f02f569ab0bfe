use Rattle.std.proofs.Common.{◌≡◌, drop}
use Rattle.hpr_syntax.specs.BodyOf.{body_of}
use Rattle.hpr_syntax.specs.Shape.{first_deep}
use Rattle.hpr_edit.proofs.refusal.+deep.Given as goal

abbrev pub invariant-deep_among-loop-stmt : goal.invariant-deep_among-loop-stmt
invariant-deep_among-loop-stmt l =
    (body_of l.stmt-items ≡ l.block) × (first_deep l.levels l.block ≡ first_deep l.levels (body_of (drop l.stmt-index l.stmt-items)))
