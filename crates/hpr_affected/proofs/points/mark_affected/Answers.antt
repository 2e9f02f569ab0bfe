use Rattle.hpr_affected.proofs.ChangedPoints.{marks_beside}
use Rattle.hpr_affected.proofs.SharedPoints.{unshared_more}
use Rattle.hpr_affected.proofs.points.mark_affected.Goals as goal

pub returns : goal.returns
returns c =
    let base = c.args.base.now in
    let beside = c.args.comparison.now in
    unshared_more base beside.other _ c.args.unshared.now.items c.mark_also.new.marks.items
    (marks_beside beside base c.in_ok-affected.affected.items _ c.requires.base c.deref.ensures.value c.in_ok-affected.ensures)
    c.mark_also.ensures.count c.mark_also.ensures.exact
