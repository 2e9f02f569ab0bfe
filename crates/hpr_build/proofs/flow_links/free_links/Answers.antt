use Rattle.std.proofs.lemmas.Result.{IfOk-weaker}
use Rattle.hpr_graph.proofs.NamesOnce.{names_once}
use Rattle.hpr_build.proofs.FlowFamily.{made_links}
use Rattle.hpr_build.proofs.FreeFlows.{free_made, free_once}
use Rattle.hpr_build.proofs.flow_links.free_links.Goals as goal

pub returns-clause-exact : goal.returns-clause-exact
returns-clause-exact c =
    let t = c.args.tables.now.program.now in
    let inits = c.args.tables.now.inits.items in
    let v = c.args.variable.now in
    let flows = c.in_ok-flows.flows.items in
    IfOk-weaker c.flow_links.result _ _ (λ links made.
    free_made t inits v c.requires.variable c.requires.none (names_once inits c.requires.tables.inits_ascending) c.args.number c.requires.number
    c.args.row.now c.requires.row flows c.in_ok-flows.ensures.exact
    links.items (made_links t v c.args.number c.args.tables.now.exit flows c.deref.result.now links.items made c.deref.ensures.value c.requires.tables.exit))
    c.flow_links.ensures

pub returns-clause-once : goal.returns-clause-once
returns-clause-once c =
    let t = c.args.tables.now.program.now in
    let inits = c.args.tables.now.inits.items in
    let v = c.args.variable.now in
    let flows = c.in_ok-flows.flows.items in
    IfOk-weaker c.flow_links.result _ _ (λ links made.
    free_once t inits v c.requires.variable c.requires.none (names_once inits c.requires.tables.inits_ascending) c.args.number c.requires.number
    c.args.row.now c.requires.row flows c.in_ok-flows.ensures.exact
    links.items (made_links t v c.args.number c.args.tables.now.exit flows c.deref.result.now links.items made c.deref.ensures.value c.requires.tables.exit)
    (c.in_ok-flows.ensures.once c.requires.variable.users_once)) c.flow_links.ensures
