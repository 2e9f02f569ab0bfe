use Rattle.std.proofs.Common.{◌≡◌, drop}
use Rattle.hpr_syntax.specs.Shape.{first_unissued}
use Rattle.hpr_syntax.proofs.shape.first_unissued.Given as goal

abbrev pub invariant-loop-tag : goal.invariant-loop-tag
invariant-loop-tag l = first_unissued l.issued l.tags ≡ first_unissued l.issued (drop l.tag-index l.tags)
