use Rattle.std.proofs.Common.{◌≡◌, ◌∙◌, ℕ, false, length, replicate, ap, arith}
use Rattle.std.proofs.lemmas.Result.{IfOk-weaker}
use Rattle.hpr_slice.proofs.Marked.{marks_none, marks_reached}
use Rattle.hpr_slice.proofs.slices.forward.Goals as goal

pub returns-then-is_empty : goal.returns-then-is_empty
returns-then-is_empty c =
    let none : length c.args.points.now ≡ 0 = grind (arith, c.is_empty.ensures, c.if-is_empty.true) in
    IfOk-weaker c.unmarked.result _ _
    (λ marks is. marks_none c.args.graph.now c.args.points.now marks.items none (is ∙ ap (λ (n : ℕ). replicate n false) c.vertex_count.ensures))
    c.unmarked.ensures

pub returns : goal.returns
returns c =
    marks_reached c.args.graph.now c.in_ok-targets.ensures.numbered c.args.points.now c.requires c.in_ok-reachable.field-0.items c.in_ok-targets.targets c.in_ok-targets.ensures.rows
    c.in_ok-reachable.ensures.row c.in_ok-reachable.ensures.sound c.in_ok-reachable.ensures.complete
