use Rattle.std.proofs.Common.{◌≡◌, ◌<◌, List, ℕ, get_or, length, sym, arith}
use Rattle.std.proofs.lemmas.Option.{slice_get_within, get_or_from_slice_get}
use Rattle.hpr_graph.specs.Numbered.{HasLink}
use Rattle.hpr_build.specs.Links.{IsFlowLink}
use Rattle.hpr_build.specs.NewLinks.{FlowsOf}
use Rattle.hpr_build.proofs.Families.{SomeOf, begun_family, turn_family, fresh_family, whole_family, other_family}
use Rattle.hpr_build.proofs.FlowFamily.{flow_of_name, name_of_flow, some_name, name_of_some}
use Rattle.hpr_graph.proofs.NamesOnce.{names_once}
use Rattle.hpr_build.proofs.flow_links.push_flows.Goals as goal

pub push_flows_of-requires-clause-fresh : goal.push_flows_of-requires-clause-fresh
push_flows_of-requires-clause-fresh c = λ to l.
    let t = c.args.tables.now.program.now in
    let inits = c.args.tables.now.inits.items in
    let xs = c.args.tables.now.variables.names.items in
    let k = c.loop-at.at in
    let x : List ℕ = c.variable_at.result.name.now in
    let here : k < length xs = slice_get_within xs k x c.variable_at.ensures.name in
    let is : x ≡ get_or xs k x = sym (get_or_from_slice_get xs k x x c.variable_at.ensures.name) in
    fresh_family xs (λ y. FlowsOf t inits y to l) k (HasLink c.loop-at.graph to l) (HasLink c.args.graph.now to l) (c.loop-at.invariant.added to l) x here is (names_once xs c.requires.tables.names_ascending)
    (λ o p. c.requires.fresh to l o (flow_of_name t inits x to l p))
    (λ y h q p. name_of_flow t inits x y to l q p)

pub loop-at-preserved : goal.loop-at-preserved
loop-at-preserved c =
    let t = c.args.tables.now.program.now in
    let inits = c.args.tables.now.inits.items in
    let xs = c.args.tables.now.variables.names.items in
    let k = c.loop-at.at in
    let x : List ℕ = c.variable_at.result.name.now in
    let here : k < length xs = slice_get_within xs k x c.variable_at.ensures.name in
    let is : x ≡ get_or xs k x = sym (get_or_from_slice_get xs k x x c.variable_at.ensures.name) in
    record {
      begun = c.in_ok-push_flows_of.ensures.begun;
      added = λ to l. turn_family xs (λ y. FlowsOf t inits y to l) k (HasLink c.loop-at.graph to l) (HasLink c.args.graph.now to l) (c.loop-at.invariant.added to l) x here is (HasLink c.push_flows_of.new.graph to l) (c.in_ok-push_flows_of.ensures.added to l);
    }

pub returns-clause-added : goal.returns-clause-added
returns-clause-added c = λ to l.
    let t = c.args.tables.now.program.now in
    let inits = c.args.tables.now.inits.items in
    let xs = c.args.tables.now.variables.names.items in
    let k = c.loop-at.at in
    other_family (HasLink c.loop-at.graph to l) (HasLink c.args.graph.now to l) (SomeOf xs (λ y. FlowsOf t inits y to l)) (IsFlowLink t inits to l)
    (some_name t inits xs c.requires.tables.names to l) (name_of_some t inits xs c.requires.tables.names to l)
    (whole_family xs (λ y. FlowsOf t inits y to l) k (HasLink c.loop-at.graph to l) (HasLink c.args.graph.now to l) (c.loop-at.invariant.added to l) (omega (arith, c.len-at-end.ensures, c.loop-at-test.false, c.args.tables.now.variables.names.ok.0)))

pub loop-at-init : goal.loop-at-init
loop-at-init c = record {
  begun = c.requires.begun;
  added = λ to l. begun_family (λ (x : List ℕ). FlowsOf c.args.tables.now.program.now c.args.tables.now.inits.items x to l) (HasLink c.args.graph.now to l);
}
