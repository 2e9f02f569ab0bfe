use Rattle.std.proofs.Common.{◌∙◌, Bool, List, ap, length, subst}
use Rattle.std.proofs.lemmas.Result.{IfOk-weaker}
use Rattle.hpr_graph.specs.Graphs.{Same, restrict_to}
use Rattle.hpr_graph.specs.Numbered.{IsMarkedVertex, graph_in}
use Rattle.hpr_impact.proofs.Reached.{reached_kept}
use Rattle.hpr_impact.proofs.impact.reached_graph.Goals as goal

pub restrict-requires : goal.restrict-requires
restrict-requires c = ap length c.deref.ensures.value ∙ c.in_ok-marks.ensures.count

pub returns : goal.returns
returns c =
    let graph = c.args.graph.now in
    let kept = c.in_ok-restrict.field-0 in
    let marks = c.in_ok-marks.marks.items in
    let same = subst (λ (ms : List Bool). Same (graph_in kept) (restrict_to (graph_in graph) (IsMarkedVertex graph ms))) c.deref.ensures.value c.in_ok-restrict.ensures in
    IfOk-weaker c.in_order.result _ _ (λ g are. reached_kept graph c.args.points.now marks kept g.vertices c.in_ok-marks.ensures same are) c.in_order.ensures.vertices
