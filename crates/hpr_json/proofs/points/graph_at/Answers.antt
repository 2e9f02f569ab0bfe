use Rattle.std.proofs.Common.{List, Bool, subst}
use Rattle.std.proofs.lemmas.Result.{IfOk-weaker}
use Rattle.hpr_graph.specs.Graphs.{Same, restrict_to}
use Rattle.hpr_graph.specs.Numbered.{IsMarkedVertex, graph_in}
use Rattle.hpr_json.proofs.Marked.{points_kept}
use Rattle.hpr_json.proofs.points.graph_at.Goals as goal

pub returns : goal.returns
returns c =
    let graph = c.args.graph.now in
    let points = c.args.points.now in
    let kept = c.in_ok-restrict.field-0 in
    let same : Same (graph_in kept) (restrict_to (graph_in graph) (IsMarkedVertex graph c.in_ok-marks.marks.items)) =
    subst (λ (marks : List Bool). Same (graph_in kept) (restrict_to (graph_in graph) (IsMarkedVertex graph marks))) c.deref.ensures.value c.in_ok-restrict.ensures in
    IfOk-weaker c.in_order.result _ _ (λ g are. points_kept graph points c.in_ok-marks.marks.items kept g.vertices (c.in_ok-marks.ensures).marks same are) c.in_order.ensures.vertices
