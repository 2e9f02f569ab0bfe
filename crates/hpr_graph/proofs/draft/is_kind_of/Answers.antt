use Rattle.hpr_graph.proofs.Linked.{control_kind, independent_kind, carried_kind, order_kind}
use Rattle.hpr_graph.proofs.draft.is_kind_of.Goals as goal

pub returns-in-Control : goal.returns-in-Control
returns-in-Control c = rw c.in-Control.is (control_kind c.args.vertices.now c.args.from.now c.in-Control.field-0)

pub returns-in-Independent : goal.returns-in-Independent
returns-in-Independent c =
    let named = independent_kind c.args.vertices.now c.args.from.now in
    rw c.in-Independent.is (λ t. named.0 (c.has_name.ensures.0 t), λ h. c.has_name.ensures.1 (named.1 h))

pub returns-then-has_name : goal.returns-then-has_name
returns-then-has_name c =
    rw c.in-Carried.is (carried_kind c.args.vertices.now c.args.from.now c.in-Carried.w (c.has_name-in-Carried.ensures.0 c.if-has_name.true))

pub returns-in-Order : goal.returns-in-Order
returns-in-Order c = rw c.in-Order.is (order_kind c.args.vertices.now c.args.from.now c.in-Order.u)
