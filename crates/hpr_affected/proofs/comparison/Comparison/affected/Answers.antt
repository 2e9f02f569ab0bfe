use Rattle.std.proofs.Common.{arith}
use Rattle.hpr_graph.specs.Numbered.{graph_in}
use Rattle.hpr_graph.specs.Points.{IsAffected}
use Rattle.hpr_affected.proofs.ChangedPoints.{marked_test}
use Rattle.hpr_affected.proofs.PointLists.{before_none, before_more, before_all}
use Rattle.hpr_affected.proofs.comparison.Comparison.affected.Goals as goal

pub loop-at-init : goal.loop-at-init
loop-at-init c = before_none _ _ _ c.new-points.ensures.items

pub loop-at-preserved : goal.loop-at-preserved
loop-at-preserved c =
    let g = c.args.self.now.graph in
    let h = c.args.self.now.other in
    before_more _ _ c.loop-at.points.items _ c.loop-at.at c.is_marked.result c.loop-at.invariant
    (marked_test g (IsAffected (graph_in g) (graph_in h)) c.in_ok-marks.marks.items _ c.loop-at.at c.is_marked.result c.in_ok-marks.ensures.affected c.deref.ensures.value c.is_marked.ensures)
    c.in_ok-push_if.ensures

pub returns : goal.returns
returns c = before_all _ _ _ c.loop-at.at c.loop-at.invariant (omega (arith, c.loop-at-test.false, c.loop-at.auto.at-end, c.in_ok-marks.marks.ok, c.in_ok-marks.ensures.affected.count))
