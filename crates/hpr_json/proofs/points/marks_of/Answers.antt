use Rattle.std.proofs.Common.{◌<◌, length, get_or, true, sym, ◌∙◌, subst}
use Rattle.std.proofs.lemmas.List.{length-set}
use Rattle.hpr_json.proofs.Marked.{next_more, all_more, marked_vertices}
use Rattle.hpr_json.proofs.points.marks_of.Goals as goal

pub loop-point-preserved : goal.loop-point-preserved
loop-point-preserved c =
    let points = c.args.points.now in
    let i = c.loop-point.point-index in
    let within : get_or points i 0 < length c.loop-point.marks.items = subst (λ n. get_or points i 0 < n) (sym c.loop-point.invariant.count) (c.requires i 0 c.loop-point-test.true) in
    record {
      count = length-set c.loop-point.marks.items (get_or points i 0) true ∙ c.loop-point.invariant.count;
      marks = next_more points c.loop-point.marks.items i c.loop-point-test.true within c.loop-point.invariant.marks;
    }

pub returns-clause-marks : goal.returns-clause-marks
returns-clause-marks c =
    marked_vertices c.args.graph.now c.args.points.now c.loop-point.marks.items (all_more c.args.points.now c.loop-point.marks.items c.loop-point.point-index c.loop-point-test.false c.loop-point.invariant.marks)
