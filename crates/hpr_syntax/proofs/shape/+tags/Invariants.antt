use Rattle.std.proofs.Common.{◌≡◌, ◌++◌, [], drop}
use Rattle.hpr_syntax.specs.BodyOf.{body_of}
use Rattle.hpr_syntax.specs.Parts.{tags_of}
use Rattle.hpr_syntax.proofs.shape.+tags.Given as goal

abbrev pub invariant-push_tags-loop-stmt : goal.invariant-push_tags-loop-stmt
invariant-push_tags-loop-stmt l =
    (body_of l.stmt-items ≡ l.block) × (l.tags.items ++ tags_of (body_of (drop l.stmt-index l.stmt-items)) [] ≡ l.initial.tags.items ++ tags_of l.block [])
