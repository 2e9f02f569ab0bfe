use Rattle.std.proofs.Common.{◌⊎◌, ◌↔◌, List, Contains, sym, subst}
use Rattle.hpr_build.specs.declared.flow_links.Source.{Source}
use Rattle.hpr_build.specs.NewLinks.{IsInitialAt}
use Rattle.hpr_graph.specs.Graphs.{IsOnce}
use Rattle.hpr_build.proofs.FlowFamily.{all_sources, parts_once, parts_inside}
use Rattle.hpr_build.proofs.flow_links.sources_of.Goals as goal

pub returns-clause-exact : goal.returns-clause-exact
returns-clause-exact c =
    let t = c.args.tables.now in
    let v = c.args.variable.now in
    all_sources t.program.now t.inits.items v c.requires.variable c.push_initial.new.into.items
    (λ s. subst (λ (xs : List Source). Contains c.push_initial.new.into.items s ↔ (Contains xs s ⊎ IsInitialAt t.program.now t.inits.items v.name.now s.point s.number)) c.in_ok-sources.ensures (c.in_ok-push_initial.ensures.exact s))

pub returns-clause-once : goal.returns-clause-once
returns-clause-once c =
    let t = c.args.tables.now in
    let v = c.args.variable.now in
    c.in_ok-push_initial.ensures.once
    (subst (λ (xs : List Source). IsOnce xs) (sym c.in_ok-sources.ensures) (parts_once t.program.now t.inits.items v c.requires.variable))
    (λ s h. parts_inside t.program.now t.inits.items v c.requires.variable s (subst (λ (xs : List Source). Contains xs s) c.in_ok-sources.ensures h))
