use Rattle.std.proofs.Common.{◌≡◌, ◌++◌, List, false, ap, ◌∙◌, codes}
use Rattle.serde_json.specs.View.{view}
use Rattle.serde_json.specs.Written.{compact_text, has_float}
use Rattle.hpr_graph.specs.declared.edge.Edge.{Edge}
use Rattle.hpr_graph.specs.InOrder.{edges_of}
use Rattle.hpr_report.specs.GraphJson.{graph_data}
use Rattle.hpr_report.proofs.Whole.{graph_whole}
use Rattle.hpr_report.proofs.objects.json_of.Goals as goal

pub returns : goal.returns
returns c =
    let g = c.args.graph.now in
    let es : List Edge = edges_of g in
    let value = c.in_ok-graph_value.field-0 in
    let is : view value ≡ graph_data g.vertices es = c.in_ok-graph_value.ensures in
    let whole : has_float (view value) ≡ false = ap has_float is ∙ graph_whole g.vertices es in
    let text : c.in_ok-out.out.items ≡ compact_text (graph_data g.vertices es) = (c.in_ok-out.ensures).text whole ∙ ap compact_text is in
    (c.in_ok-push.ensures).items ∙ ap (λ x. x ++ codes "\n") text
