use Rattle.std.proofs.lemmas.Result.{IfOk-weaker}
use Rattle.hpr_graph.specs.Numbered.{IsOneOf, graph_in}
use Rattle.hpr_graph.specs.Slices.{IsReached}
use Rattle.hpr_slice.specs.Vertices.{MarksExactly}
use Rattle.hpr_affected.specs.Comparison.{MarksAffected}
use Rattle.hpr_affected.proofs.ChangedPoints.{reached_marks}
use Rattle.hpr_affected.proofs.comparison.reached_marks.Goals as goal

pub returns : goal.returns
returns c =
    let g = c.args.graph.now in
    let h = c.args.other.now in
    let points = c.args.points.now in
    IfOk-weaker c.forward.result (λ marks. MarksExactly g (IsReached (graph_in g) (IsOneOf g points)) marks.items) (λ marks. MarksAffected g h marks.items)
    (λ marks m. reached_marks g h c.vertices-vertices.ensures.numbered c.vertices-others.ensures.numbered c.requires.graph c.requires.other points marks.items c.requires.points m)
    c.forward.ensures
