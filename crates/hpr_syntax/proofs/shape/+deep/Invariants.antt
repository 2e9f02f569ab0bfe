use Rattle.std.proofs.Common.{◌≡◌, drop}
use Rattle.hpr_syntax.specs.BodyOf.{body_of}
use Rattle.hpr_syntax.specs.Shape.{first_deep}
use Rattle.hpr_syntax.proofs.shape.+deep.Given as goal

abbrev pub invariant-first_deep-loop-stmt : goal.invariant-first_deep-loop-stmt
invariant-first_deep-loop-stmt l =
    (body_of l.stmt-items ≡ l.block) × (first_deep l.levels l.block ≡ first_deep l.levels (body_of (drop l.stmt-index l.stmt-items)))
