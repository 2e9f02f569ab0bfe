use Rattle.std.proofs.Common.{List, inr, sym, subst}
use Rattle.hpr_graph.specs.Graphs.{IsOnce}
use Rattle.hpr_build.specs.declared.pushes.NewLink.{NewLink}
use Rattle.hpr_build.specs.NewLinks.{OrdersAt}
use Rattle.hpr_build.proofs.OrderFamily.{order_of_name}
use Rattle.hpr_build.proofs.StageTurns.{to_family, stage_added, on_ok}
use Rattle.hpr_build.proofs.order_links.push_orders_at.Goals as goal

pub push_links-requires-clause-once : goal.push_links-requires-clause-once
push_links-requires-clause-once c = subst (λ (ns : List NewLink). IsOnce ns) (sym c.deref.ensures.value) c.in_ok-links.ensures.once

pub push_links-requires-clause-links : goal.push_links-requires-clause-links
push_links-requires-clause-links c = λ n h.
    let t = c.args.tables.now.program.now in
    let x = c.args.variable.now.name.now in
    inr (inr (order_of_name t n.to n.link x (c.args.user, to_family (OrdersAt t x c.args.user) c.deref.result.now c.in_ok-links.links.items c.deref.ensures.value c.in_ok-links.ensures.exact n.to n.link h)))

pub push_links-requires-clause-fresh : goal.push_links-requires-clause-fresh
push_links-requires-clause-fresh c = λ n h was.
    c.requires.fresh n.to n.link was
    (to_family (OrdersAt c.args.tables.now.program.now c.args.variable.now.name.now c.args.user) c.deref.result.now c.in_ok-links.links.items c.deref.ensures.value c.in_ok-links.ensures.exact n.to n.link h)

pub returns-clause-added : goal.returns-clause-added
returns-clause-added c =
    on_ok c.push_links.result _ _ (stage_added (OrdersAt c.args.tables.now.program.now c.args.variable.now.name.now c.args.user) c.deref.result.now c.in_ok-links.links.items c.deref.ensures.value c.in_ok-links.ensures.exact
    c.args.graph.now c.push_links.new.graph) c.push_links.ensures.added
