use Rattle.std.proofs.Common.{List, inl, inr, sym, subst}
use Rattle.hpr_graph.specs.Graphs.{IsOnce}
use Rattle.hpr_build.specs.declared.pushes.NewLink.{NewLink}
use Rattle.hpr_build.specs.NewLinks.{FlowsFrom}
use Rattle.hpr_build.proofs.FlowFamily.{flow_of_source, flow_of_name}
use Rattle.hpr_build.proofs.StageTurns.{to_family, stage_added, on_ok}
use Rattle.hpr_build.proofs.flow_links.push_flows_from.Goals as goal

pub push_links-requires-clause-once : goal.push_links-requires-clause-once
push_links-requires-clause-once c = subst (λ (ns : List NewLink). IsOnce ns) (sym c.deref.ensures.value) c.in_ok-links.ensures.once

pub push_links-requires-clause-links : goal.push_links-requires-clause-links
push_links-requires-clause-links c = λ n h.
    let t = c.args.tables.now.program.now in
    let inits = c.args.tables.now.inits.items in
    let x = c.args.variable.now.name.now in
    let s = c.args.source in
    inr (inl (flow_of_name t inits x n.to n.link (flow_of_source t inits x s.point s.number n.to n.link c.requires.source
    (to_family (FlowsFrom t x s.point s.number) c.deref.result.now c.in_ok-links.links.items c.deref.ensures.value c.in_ok-links.ensures.exact n.to n.link h))))

pub push_links-requires-clause-fresh : goal.push_links-requires-clause-fresh
push_links-requires-clause-fresh c = λ n h was.
    let s = c.args.source in
    c.requires.fresh n.to n.link was
    (to_family (FlowsFrom c.args.tables.now.program.now c.args.variable.now.name.now s.point s.number) c.deref.result.now c.in_ok-links.links.items c.deref.ensures.value c.in_ok-links.ensures.exact n.to n.link h)

pub returns-clause-added : goal.returns-clause-added
returns-clause-added c =
    let s = c.args.source in
    on_ok c.push_links.result _ _ (stage_added (FlowsFrom c.args.tables.now.program.now c.args.variable.now.name.now s.point s.number) c.deref.result.now c.in_ok-links.links.items c.deref.ensures.value c.in_ok-links.ensures.exact
    c.args.graph.now c.push_links.new.graph) c.push_links.ensures.added
