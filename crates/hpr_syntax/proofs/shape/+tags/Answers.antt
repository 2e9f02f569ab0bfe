use Rattle.std.proofs.Common.{◌+◌, [], drop, arith}
use Rattle.std.proofs.lemmas.Grind.{common_steps}
use Rattle.hpr_syntax.specs.BodyOf.{body_of}
use Rattle.hpr_syntax.specs.Parts.{tags_of}
use Rattle.hpr_syntax.proofs.ShapeLemmas.{tags_append, tags_before}
use Rattle.hpr_syntax.proofs.shape.+tags.Goals as goal

pub push_tags-loop-stmt-preserved : goal.push_tags-loop-stmt-preserved
push_tags-loop-stmt-preserved t c =
    let e = tags_before c.stmt-item.result (body_of (drop (c.loop-stmt.stmt-index + 1) c.deref-stmt-items.result.now)) in
    (c.loop-stmt.invariant.0, grind (arith, common_steps, e, c.loop-stmt.invariant.1))

pub push_tags_in-returns-in_ok-push_tags-in-If : goal.push_tags_in-returns-in_ok-push_tags-in-If
push_tags_in-returns-in_ok-push_tags-in-If t c =
    let e = tags_append c.in-If.yes [] (tags_of c.in-If.no []) in
    grind (arith, common_steps, e)
