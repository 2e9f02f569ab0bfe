use Rattle.std.proofs.Common.{arith}
use Rattle.hpr_affected.proofs.PointLists.{before_none, before_more, before_all}
use Rattle.hpr_affected.proofs.SharedPoints.{preserved_test}
use Rattle.hpr_affected.proofs.points.shared_points.Goals as goal

pub loop-at-init : goal.loop-at-init
loop-at-init c = λ gs m. before_none _ _ _ c.new-points.ensures.items

pub loop-at-preserved : goal.loop-at-preserved
loop-at-preserved c = λ gs m.
    before_more _ _ c.loop-at.points.items _ c.loop-at.at c.is_preserved-kept.result (c.loop-at.invariant gs m)
    (preserved_test c.args.base.now gs c.args.unshared.now m c.loop-at.at c.vertex.result.now c.is_preserved-kept.result c.vertex.ensures c.is_preserved-kept.ensures)
    c.in_ok-push_if.ensures

pub returns : goal.returns
returns c = λ gs m. before_all _ _ _ c.loop-at.at (c.loop-at.invariant gs m) (omega (arith, c.loop-at-test.false, c.loop-at.auto.at-end, c.vertex_count-at-end.ensures))
