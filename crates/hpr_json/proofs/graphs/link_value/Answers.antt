use Rattle.std.proofs.Common.{List, ℕ, sym, ap, ap₂, ◌∙◌}
use Rattle.std.proofs.lemmas.Result.{IfOk-weaker}
use Rattle.serde_json.specs.Data.{Data}
use Rattle.serde_json.specs.View.{view}
use Rattle.hpr_graph.specs.declared.edge.Kind.TheVariants as kind
use Rattle.hpr_graph.specs.declared.link.LinkKind.TheVariants.{Control, Independent, Carried, Order}
use Rattle.hpr_report.specs.GraphJson.{flow_data, number_data}
use Rattle.hpr_json.specs.Vertices.{carried_data, kind_data, order_data}
use Rattle.hpr_json.proofs.Places.{edge_by_numbers}
use Rattle.hpr_json.proofs.graphs.link_value.Goals as goal

pub returns-in-Control : goal.returns-in-Control
returns-in-Control c =
    let is = edge_by_numbers c.args.graph.now.vertices c.requires.ascend c.args.to c.args.link (Control c.in-Control.label) c.requires.link c.in-Control.is in
    let ends = ap₂ (λ (from to : Data). kind_data (kind.Control c.in-Control.label) from to) c.from-from.ensures c.from-to.ensures in
    IfOk-weaker c.control_value.result _ _ (λ value h. h ∙ ends ∙ sym is) c.control_value.ensures

pub returns-in-Independent : goal.returns-in-Independent
returns-in-Independent c =
    let is = edge_by_numbers c.args.graph.now.vertices c.requires.ascend c.args.to c.args.link Independent c.requires.link c.in-Independent.is in
    let ends = ap₂ (λ (from to : Data). kind_data (kind.Independent c.name_from.result.now) from to) c.from-from.ensures c.from-to.ensures in
    let named = ap (λ (x : List ℕ). flow_data x c.args.link.from c.args.to) c.name_from.ensures in
    IfOk-weaker c.flow_value.result _ _ (λ value h. h ∙ ends ∙ named ∙ sym is) c.flow_value.ensures

pub returns-in-Carried : goal.returns-in-Carried
returns-in-Carried c =
    let is = edge_by_numbers c.args.graph.now.vertices c.requires.ascend c.args.to c.args.link (Carried c.in-Carried.by) c.requires.link c.in-Carried.is in
    let name = c.name_from-name.result.now in
    let ends = ap₂ (λ (from to : Data). carried_data name (view c.from.result) from to) c.from-from.ensures c.from-to.ensures in
    let carrier = ap (λ (by : Data). carried_data name by (number_data c.args.link.from) (number_data c.args.to)) c.from.ensures in
    let named = ap (λ (x : List ℕ). carried_data x (number_data c.in-Carried.by) (number_data c.args.link.from) (number_data c.args.to)) c.name_from-name.ensures in
    IfOk-weaker c.carried_value.result _ _ (λ value h. h ∙ ends ∙ carrier ∙ named ∙ sym is) c.carried_value.ensures

pub returns-in-Order : goal.returns-in-Order
returns-in-Order c =
    let is = edge_by_numbers c.args.graph.now.vertices c.requires.ascend c.args.to c.args.link (Order c.in-Order.used) c.requires.link c.in-Order.is in
    let ends = ap₂ (λ (from to : Data). order_data (view c.from-in-Order.result) from to) c.from-from.ensures c.from-to.ensures in
    let used = ap (λ (u : Data). order_data u (number_data c.args.link.from) (number_data c.args.to)) c.from-in-Order.ensures in
    IfOk-weaker c.order_value.result _ _ (λ value h. h ∙ ends ∙ used ∙ sym is) c.order_value.ensures
