use Rattle.std.proofs.Common.{◌≡◌, ◌↔◌, ◌<◌, ℕ, All, List, Contains, get_or, sym, subst, arith}
use Rattle.std.proofs.lemmas.List.{get_or_default}
use Rattle.hpr_graph.specs.Numbered.{HasLink}
use Rattle.hpr_build.specs.declared.flow_links.Source.{Source}
use Rattle.hpr_build.specs.Links.{IsSourceAt}
use Rattle.hpr_build.specs.NewLinks.{FlowsFrom, FlowsOf}
use Rattle.hpr_graph.specs.Graphs.{IsOnce}
use Rattle.hpr_build.proofs.Families.{SomeOf, begun_family, turn_family, fresh_family, whole_family, other_family}
use Rattle.hpr_build.proofs.FlowFamily.{no_source, flow_of_source, some_source, source_of_some, one_source}
use Rattle.hpr_build.proofs.TargetNumbers.{users_within}
use Rattle.hpr_build.proofs.flow_links.push_flows_of_sources.Goals as goal

pub marked-requires : goal.marked-requires
marked-requires c =
    let t = c.args.tables.now in
    subst (λ (n : ℕ). All (λ u. u < n) c.args.variable.now.users.now) (sym c.points.ensures.points)
    (users_within t.program.now c.args.variable.now c.requires.variable t.succ c.requires.tables.succ)

pub push_flows_from-requires-clause-source : goal.push_flows_from-requires-clause-source
push_flows_from-requires-clause-source c =
    let t = c.args.tables.now in
    let xs = c.deref-source-items.result.now in
    let k = c.loop-source.source-index in
    let s : Source = get_or xs k no_source in
    let is : s ≡ get_or xs k s = get_or_default xs k no_source s c.loop-source-test.true in
    (c.in_ok-sources.ensures.exact s).0 (subst (λ (ys : List Source). Contains ys s) c.deref-source-items.ensures.value (k, c.loop-source-test.true, sym is))

pub push_flows_from-requires-clause-fresh : goal.push_flows_from-requires-clause-fresh
push_flows_from-requires-clause-fresh c = λ to l.
    let t = c.args.tables.now.program.now in
    let inits = c.args.tables.now.inits.items in
    let x = c.args.variable.now.name.now in
    let xs = c.deref-source-items.result.now in
    let k = c.loop-source.source-index in
    let s : Source = get_or xs k no_source in
    let is : s ≡ get_or xs k s = get_or_default xs k no_source s c.loop-source-test.true in
    let exact : (r : Source) → Contains xs r ↔ IsSourceAt t inits x r.point r.number
    = λ r. subst (λ (ys : List Source). Contains ys r ↔ IsSourceAt t inits x r.point r.number) (sym c.deref-source-items.ensures.value)
    (c.in_ok-sources.ensures.exact r) in
    let once : IsOnce xs = subst (λ (ys : List Source). IsOnce ys) (sym c.deref-source-items.ensures.value) c.in_ok-sources.ensures.once in
    fresh_family xs (λ r. FlowsFrom t x r.point r.number to l) k (HasLink c.loop-source.graph to l) (HasLink c.args.graph.now to l)
    (c.loop-source.invariant.added to l) s c.loop-source-test.true is once
    (λ o p. c.requires.fresh to l o (flow_of_source t inits x s.point s.number to l ((exact s).0 (k, c.loop-source-test.true, sym is)) p))
    (λ r h q p. one_source t inits x xs exact to l r s h (k, c.loop-source-test.true, sym is) q p)

pub loop-source-preserved : goal.loop-source-preserved
loop-source-preserved c =
    let t = c.args.tables.now.program.now in
    let x = c.args.variable.now.name.now in
    let xs = c.deref-source-items.result.now in
    let k = c.loop-source.source-index in
    let s : Source = get_or xs k no_source in
    let is : s ≡ get_or xs k s = get_or_default xs k no_source s c.loop-source-test.true in
    record {
      begun = c.in_ok-push_flows_from.ensures.begun;
      added = λ to l. turn_family xs (λ r. FlowsFrom t x r.point r.number to l) k (HasLink c.loop-source.graph to l) (HasLink c.args.graph.now to l)
          (c.loop-source.invariant.added to l) s c.loop-source-test.true is
          (HasLink c.push_flows_from.new.graph to l) (c.in_ok-push_flows_from.ensures.added to l);
    }

pub returns-clause-added : goal.returns-clause-added
returns-clause-added c = λ to l.
    let t = c.args.tables.now.program.now in
    let inits = c.args.tables.now.inits.items in
    let x = c.args.variable.now.name.now in
    let xs = c.deref-source-items.result.now in
    let exact : (r : Source) → Contains xs r ↔ IsSourceAt t inits x r.point r.number
    = λ r. subst (λ (ys : List Source). Contains ys r ↔ IsSourceAt t inits x r.point r.number) (sym c.deref-source-items.ensures.value)
    (c.in_ok-sources.ensures.exact r) in
    other_family (HasLink c.loop-source.graph to l) (HasLink c.args.graph.now to l) (SomeOf xs (λ r. FlowsFrom t x r.point r.number to l))
    (FlowsOf t inits x to l)
    (some_source t inits x xs exact to l) (source_of_some t inits x xs exact to l)
    (whole_family xs (λ r. FlowsFrom t x r.point r.number to l) c.loop-source.source-index (HasLink c.loop-source.graph to l) (HasLink c.args.graph.now to l)
    (c.loop-source.invariant.added to l) (omega (arith, c.loop-source-test.false)))

pub loop-source-init : goal.loop-source-init
loop-source-init c = record {
  begun = c.requires.begun;
  added = λ to l. begun_family (λ (r : Source). FlowsFrom c.args.tables.now.program.now c.args.variable.now.name.now r.point r.number to l)
      (HasLink c.args.graph.now to l);
}

pub sources_of-requires-clause-tables : goal.sources_of-requires-clause-tables
sources_of-requires-clause-tables c = c.requires.tables

pub sources_of-requires-clause-variable : goal.sources_of-requires-clause-variable
sources_of-requires-clause-variable c = c.requires.variable

pub returns-clause-begun : goal.returns-clause-begun
returns-clause-begun c = c.loop-source.invariant.begun

pub push_flows_from-requires-clause-tables : goal.push_flows_from-requires-clause-tables
push_flows_from-requires-clause-tables c = c.requires.tables

pub push_flows_from-requires-clause-variable : goal.push_flows_from-requires-clause-variable
push_flows_from-requires-clause-variable c = c.requires.variable

pub push_flows_from-requires-clause-begun : goal.push_flows_from-requires-clause-begun
push_flows_from-requires-clause-begun c = c.loop-source.invariant.begun
