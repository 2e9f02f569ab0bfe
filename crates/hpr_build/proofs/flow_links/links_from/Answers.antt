use Rattle.std.proofs.Common.{◌≡◌, ◌↔◌, List, Contains, map, length, ap, sym, subst, arith}
use Rattle.hpr_paths.specs.Spots.{Spot}
use Rattle.hpr_build.specs.declared.pushes.NewLink.{NewLink}
use Rattle.hpr_build.specs.Links.{exit_of}
use Rattle.hpr_build.specs.NewLinks.{flow_link, FlowsFrom}
use Rattle.hpr_graph.specs.Graphs.{IsOnce}
use Rattle.hpr_build.proofs.FlowFamily.{source_within, flows_of_links, links_of_flows, flow_links_once, made_links}
use Rattle.hpr_build.proofs.UserFlows.{flows_by_list}
use Rattle.hpr_build.proofs.flow_links.links_from.Goals as goal

pub flows_from-requires : goal.flows_from-requires
flows_from-requires c =
    let t = c.args.tables.now in
    omega (arith, source_within t.program.now t.inits.items c.args.variable.now.name.now c.args.source.point c.args.source.number c.requires.source, ap (λ (s : List Spot). length s) c.requires.tables.succ)

pub returns-clause-exact : goal.returns-clause-exact
returns-clause-exact c = λ n.
    let t = c.args.tables.now.program.now in
    let v = c.args.variable.now in
    let d = c.args.source.point in
    let source = c.args.source.number in
    let flows = c.in_ok-flows.flows.items in
    let made : c.in_ok-links.links.items ≡ map (flow_link (exit_of t) v.final_number source) flows
    = made_links t v source c.args.tables.now.exit flows c.deref.result.now c.in_ok-links.links.items c.in_ok-links.ensures c.deref.ensures.value c.requires.tables.exit in
    subst (λ (ns : List NewLink). Contains ns n ↔ FlowsFrom t v.name.now d source n.to n.link) (sym made) (
      flows_of_links t v c.requires.variable c.args.tables.now.succ c.requires.tables.succ d source flows (flows_by_list _ _ _ _ _ flows c.requires.users c.in_ok-flows.ensures.exact) n.to n.link,
      links_of_flows t v c.requires.variable c.args.tables.now.succ c.requires.tables.succ d source flows (flows_by_list _ _ _ _ _ flows c.requires.users c.in_ok-flows.ensures.exact) n.to n.link,
    )

pub returns-clause-once : goal.returns-clause-once
returns-clause-once c =
    let t = c.args.tables.now.program.now in
    let v = c.args.variable.now in
    let source = c.args.source.number in
    let flows = c.in_ok-flows.flows.items in
    let made : c.in_ok-links.links.items ≡ map (flow_link (exit_of t) v.final_number source) flows
    = made_links t v source c.args.tables.now.exit flows c.deref.result.now c.in_ok-links.links.items c.in_ok-links.ensures c.deref.ensures.value c.requires.tables.exit in
    subst (λ (ns : List NewLink). IsOnce ns) (sym made)
    (flow_links_once t v c.requires.variable c.args.tables.now.succ c.requires.tables.succ c.args.source.point source flows (flows_by_list _ _ _ _ _ flows c.requires.users c.in_ok-flows.ensures.exact) c.in_ok-flows.ensures.once)
