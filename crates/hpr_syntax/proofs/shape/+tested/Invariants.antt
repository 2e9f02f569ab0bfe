use Rattle.std.proofs.Common.{◌≡◌, drop}
use Rattle.hpr_syntax.specs.BodyOf.{body_of}
use Rattle.hpr_syntax.specs.Shape.{first_where}
use Rattle.hpr_syntax.specs.Private.Refusals.{test_of}
use Rattle.hpr_syntax.proofs.shape.+tested.Given as goal

abbrev pub invariant-first_where-loop-stmt : goal.invariant-first_where-loop-stmt
invariant-first_where-loop-stmt l =
    (body_of l.stmt-items ≡ l.block) × (first_where (test_of l.test) l.block ≡ first_where (test_of l.test) (body_of (drop l.stmt-index l.stmt-items)))
