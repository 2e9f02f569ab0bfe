use Rattle.std.proofs.Common.{List, ℕ, sym, ap, ◌∙◌}
use Rattle.std.proofs.lemmas.Result.{on_ok_weaker}
use Rattle.hpr_graph.specs.declared.link.LinkKind.TheVariants.{Control, Independent, Carried, Order}
use Rattle.hpr_report.specs.GraphJson.{flow_data, carried_data}
use Rattle.hpr_report.proofs.Places.{edge_by_numbers}
use Rattle.hpr_report.proofs.objects.put_edge.Goals as goal

pub returns-in-Control : goal.returns-in-Control
returns-in-Control c =
    let is = edge_by_numbers c.args.graph.now.vertices c.requires.ascend c.args.to c.args.link (Control c.in-Control.label) c.requires.link c.in-Control.is in
    on_ok_weaker c.put_control.result (λ h. h ∙ sym is) c.put_control.ensures

pub returns-in-Independent : goal.returns-in-Independent
returns-in-Independent c =
    let is = edge_by_numbers c.args.graph.now.vertices c.requires.ascend c.args.to c.args.link Independent c.requires.link c.in-Independent.is in
    let named = ap (λ (x : List ℕ). flow_data x c.args.link.from c.args.to) c.name_from.ensures in
    on_ok_weaker c.put_flow.result (λ h. h ∙ named ∙ sym is) c.put_flow.ensures

pub returns-in-Carried : goal.returns-in-Carried
returns-in-Carried c =
    let is = edge_by_numbers c.args.graph.now.vertices c.requires.ascend c.args.to c.args.link (Carried c.in-Carried.by) c.requires.link c.in-Carried.is in
    let named = ap (λ (x : List ℕ). carried_data c.in-Carried.by x c.args.link.from c.args.to) c.name_from-in-Carried.ensures in
    on_ok_weaker c.put_carried.result (λ h. h ∙ named ∙ sym is) c.put_carried.ensures

pub returns-in-Order : goal.returns-in-Order
returns-in-Order c =
    let is = edge_by_numbers c.args.graph.now.vertices c.requires.ascend c.args.to c.args.link (Order c.in-Order.used) c.requires.link c.in-Order.is in
    on_ok_weaker c.put_order.result (λ h. h ∙ sym is) c.put_order.ensures
