use Rattle.std.proofs.Common.{map, subst}
use Rattle.std.proofs.lemmas.List.{take_all}
use Rattle.hpr_inputs.specs.Points.{point_text}
use Rattle.hpr_inputs.specs.ReadsPoints.{AddsText, HasTexts}
use Rattle.hpr_inputs.proofs.PointLemmas.{texts_more}
use Rattle.hpr_inputs.proofs.points.point_set.Goals as goal

pub loop-vertex-preserved : goal.loop-vertex-preserved
loop-vertex-preserved c =
    texts_more point_text c.args.vertices.now c.loop-vertex.set c.insert.new.set c.loop-vertex.vertex-index c.vertex-item.result c.loop-vertex-test.true c.vertex-item.is
    c.loop-vertex.invariant (subst (AddsText c.loop-vertex.set c.insert.new.set) c.in_ok-point_text.ensures c.in_ok-insert.ensures)

pub returns : goal.returns
returns c =
    subst (λ vs. HasTexts c.loop-vertex.set (map point_text vs)) (take_all c.loop-vertex.vertex-index c.args.vertices.now c.loop-vertex-test.false) c.loop-vertex.invariant
