use Rattle.std.proofs.Common.{List, inl, inr, sym, subst}
use Rattle.hpr_graph.specs.Graphs.{IsOnce}
use Rattle.hpr_build.specs.declared.pushes.NewLink.{NewLink}
use Rattle.hpr_build.specs.NewLinks.{FlowsOf}
use Rattle.hpr_build.proofs.FlowFamily.{flow_of_name}
use Rattle.hpr_build.proofs.FreeFlows.{no_flows}
use Rattle.hpr_build.proofs.StageTurns.{to_family, stage_added, on_ok}
use Rattle.hpr_build.proofs.flow_links.push_free_flows.Goals as goal

pub push_links-requires-clause-once : goal.push_links-requires-clause-once
push_links-requires-clause-once c = subst (λ (ns : List NewLink). IsOnce ns) (sym c.deref.ensures.value) c.in_ok-links-in-Some.ensures.once

pub push_links-requires-clause-links : goal.push_links-requires-clause-links
push_links-requires-clause-links c = λ n h.
    let t = c.args.tables.now.program.now in
    let inits = c.args.tables.now.inits.items in
    let x = c.args.variable.now.name.now in
    inr (inl (flow_of_name t inits x n.to n.link (to_family (FlowsOf t inits x) c.deref.result.now c.in_ok-links-in-Some.links.items c.deref.ensures.value
    c.in_ok-links-in-Some.ensures.exact n.to n.link h)))

pub push_links-requires-clause-fresh : goal.push_links-requires-clause-fresh
push_links-requires-clause-fresh c = λ n h was.
    c.requires.fresh n.to n.link was
    (to_family (FlowsOf c.args.tables.now.program.now c.args.tables.now.inits.items c.args.variable.now.name.now) c.deref.result.now
    c.in_ok-links-in-Some.links.items c.deref.ensures.value c.in_ok-links-in-Some.ensures.exact n.to n.link h)

pub returns-in_ok-links-in-Some-clause-added : goal.returns-in_ok-links-in-Some-clause-added
returns-in_ok-links-in-Some-clause-added c =
    on_ok c.push_links.result _ _ (stage_added (FlowsOf c.args.tables.now.program.now c.args.tables.now.inits.items c.args.variable.now.name.now)
    c.deref.result.now c.in_ok-links-in-Some.links.items c.deref.ensures.value c.in_ok-links-in-Some.ensures.exact
    c.args.graph.now c.push_links.new.graph) c.push_links.ensures.added

pub returns-in-None-clause-added : goal.returns-in-None-clause-added
returns-in-None-clause-added c = λ to l. (
  (λ h. inl h),
  (λ h. elim h [
    | inl was ↦ was
    | inr f ↦ absurd (no_flows c.args.tables.now.program.now c.args.tables.now.inits.items c.args.variable.now c.requires.variable
        c.requires.none c.in-None.ensures.none to l f)
  ]),
)
