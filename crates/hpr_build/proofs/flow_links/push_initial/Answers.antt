use Rattle.hpr_build.proofs.FlowFamily.{initial_more, initial_none, initial_once}
use Rattle.hpr_graph.proofs.NamesOnce.{names_once}
use Rattle.hpr_build.proofs.flow_links.push_initial.Goals as goal

pub returns-in_ok-push-in-Some-clause-exact : goal.returns-in_ok-push-in-Some-clause-exact
returns-in_ok-push-in-Some-clause-exact c =
    let t = c.args.tables.now in
    let inits = t.inits.items in
    let (zero_is, (k, at, is)) = c.in-Some.ensures.some in
    initial_more t.program.now inits c.args.variable.now.name.now k c.in-Some.number (names_once inits c.requires.inits_ascending) at is c.args.into.now.items
    c.push.new.self.items c.in_ok-push-in-Some.ensures.items

pub returns-in_ok-push-in-Some-clause-once : goal.returns-in_ok-push-in-Some-clause-once
returns-in_ok-push-in-Some-clause-once c = initial_once c.in-Some.number c.args.into.now.items c.push.new.self.items c.in_ok-push-in-Some.ensures.items

pub returns-in-None-clause-exact : goal.returns-in-None-clause-exact
returns-in-None-clause-exact c =
    let t = c.args.tables.now in
    initial_none t.program.now t.inits.items c.args.variable.now.name.now c.in-None.ensures.none c.args.into.now.items
