use Rattle.std.proofs.Common.{inl, inr}
use Rattle.hpr_build.proofs.ControlFamily.{control_no_flow, control_no_order, flow_no_order}
use Rattle.hpr_build.proofs.Sources.{flows_put}
use Rattle.hpr_build.proofs.StageTurns.{on_ok}
use Rattle.hpr_build.proofs.graph.push_edges.Goals as goal

pub push_flows-requires-clause-fresh : goal.push_flows-requires-clause-fresh
push_flows-requires-clause-fresh c = λ to l h. control_no_flow c.args.tables.now.program.now c.args.tables.now.inits.items to l ((c.in_ok-push_controls.ensures.exact to l).0 h)

pub push_orders-requires-clause-fresh : goal.push_orders-requires-clause-fresh
push_orders-requires-clause-fresh c = λ to l h o.
    let t = c.args.tables.now.program.now in
    let inits = c.args.tables.now.inits.items in
    elim ((c.in_ok-push_flows.ensures.added to l).0 h) [
      | inl k ↦ control_no_order t inits to l ((c.in_ok-push_controls.ensures.exact to l).0 k) o
      | inr f ↦ flow_no_order t inits to l f o
    ]

pub returns-clause-exact : goal.returns-clause-exact
returns-clause-exact c =
    on_ok c.push_orders.result _ _ (λ added to l.
    let controls = c.in_ok-push_controls.ensures.exact to l in
    let flows = c.in_ok-push_flows.ensures.added to l in
    let orders = added to l in (
      (λ h. elim (orders.0 h) [ inl f ↦ (elim (flows.0 f) [ inl k ↦ inl (controls.0 k) | inr w ↦ inr (inl w) ]) | inr o ↦ inr (inr o) ]),
      (λ s. elim s [
        | inl k ↦ orders.1 (inl (flows.1 (inl (controls.1 k))))
        | inr r ↦ (elim r [ inl w ↦ orders.1 (inl (flows.1 (inr w))) | inr o ↦ orders.1 (inr o) ])
      ]),
    )) c.push_orders.ensures.added

pub push_orders-requires-clause-flows : goal.push_orders-requires-clause-flows
push_orders-requires-clause-flows c =
    let t = c.args.tables.now.program.now in
    let inits = c.args.tables.now.inits.items in
    flows_put t inits c.push_flows.new.graph (λ to l. (
      (λ h. elim ((c.in_ok-push_flows.ensures.added to l).0 h) [ inl k ↦ inl ((c.in_ok-push_controls.ensures.exact to l).0 k) | inr f ↦ inr f ]),
      (λ h. elim h [ inl k ↦ (c.in_ok-push_flows.ensures.added to l).1 (inl ((c.in_ok-push_controls.ensures.exact to l).1 k)) | inr f ↦ (c.in_ok-push_flows.ensures.added to l).1 (inr f) ]),
    ))
