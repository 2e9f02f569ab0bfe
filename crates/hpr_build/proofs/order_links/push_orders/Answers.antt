use Rattle.std.proofs.Common.{◌≡◌, ◌<◌, List, ℕ, take, get_or, length, sym, arith}
use Rattle.std.proofs.lemmas.Option.{slice_get_within, get_or_from_slice_get}
use Rattle.hpr_graph.specs.Numbered.{HasLink}
use Rattle.hpr_build.specs.Links.{IsOrderLink}
use Rattle.hpr_build.specs.NewLinks.{OrdersOf}
use Rattle.hpr_build.proofs.Families.{SomeOf, begun_family, turn_family, fresh_family, whole_family, other_family}
use Rattle.hpr_build.proofs.OrderFamily.{order_of_name, name_of_order, some_ordered, ordered_of_some}
use Rattle.hpr_graph.proofs.NamesOnce.{names_once}
use Rattle.hpr_build.proofs.Sources.{flows_kept}
use Rattle.hpr_build.proofs.order_links.push_orders.Goals as goal

pub push_orders_of-requires-clause-fresh : goal.push_orders_of-requires-clause-fresh
push_orders_of-requires-clause-fresh c = λ to l.
    let t = c.args.tables.now.program.now in
    let xs = c.args.tables.now.variables.names.items in
    let k = c.loop-at.at in
    let x : List ℕ = c.variable_at.result.name.now in
    let here : k < length xs = slice_get_within xs k x c.variable_at.ensures.name in
    let is : x ≡ get_or xs k x = sym (get_or_from_slice_get xs k x x c.variable_at.ensures.name) in
    fresh_family xs (λ y. OrdersOf t y to l) k (HasLink c.loop-at.graph to l) (HasLink c.args.graph.now to l) (c.loop-at.invariant.added to l) x here is (names_once xs c.requires.tables.names_ascending)
    (λ o p. c.requires.fresh to l o (order_of_name t to l x p))
    (λ y h q p. name_of_order t to l x y q p)

pub loop-at-preserved : goal.loop-at-preserved
loop-at-preserved c =
    let t = c.args.tables.now.program.now in
    let xs = c.args.tables.now.variables.names.items in
    let k = c.loop-at.at in
    let x : List ℕ = c.variable_at.result.name.now in
    let here : k < length xs = slice_get_within xs k x c.variable_at.ensures.name in
    let is : x ≡ get_or xs k x = sym (get_or_from_slice_get xs k x x c.variable_at.ensures.name) in
    record {
      begun = c.in_ok-push_orders_of.ensures.begun;
      added = λ to l. turn_family xs (λ y. OrdersOf t y to l) k (HasLink c.loop-at.graph to l) (HasLink c.args.graph.now to l) (c.loop-at.invariant.added to l) x here is (HasLink c.push_orders_of.new.graph to l) (c.in_ok-push_orders_of.ensures.added to l);
    }

pub returns-clause-added : goal.returns-clause-added
returns-clause-added c = λ to l.
    let t = c.args.tables.now.program.now in
    let xs = c.args.tables.now.variables.names.items in
    let k = c.loop-at.at in
    other_family (HasLink c.loop-at.graph to l) (HasLink c.args.graph.now to l) (SomeOf xs (λ y. OrdersOf t y to l)) (IsOrderLink t to l)
    (some_ordered t to l xs c.requires.tables.names) (ordered_of_some t to l xs c.requires.tables.names)
    (whole_family xs (λ y. OrdersOf t y to l) k (HasLink c.loop-at.graph to l) (HasLink c.args.graph.now to l) (c.loop-at.invariant.added to l) (omega (arith, c.len-at-end.ensures, c.loop-at-test.false, c.args.tables.now.variables.names.ok.0)))

pub push_orders_of-requires-clause-flows : goal.push_orders_of-requires-clause-flows
push_orders_of-requires-clause-flows c =
    let t = c.args.tables.now in
    flows_kept t.program.now t.inits.items (take c.loop-at.at t.variables.names.items) c.args.graph.now c.loop-at.graph c.requires.flows c.loop-at.invariant.added

pub loop-at-init : goal.loop-at-init
loop-at-init c = record {
  begun = c.requires.begun;
  added = λ to l. begun_family (λ (x : List ℕ). OrdersOf c.args.tables.now.program.now x to l) (HasLink c.args.graph.now to l);
}
