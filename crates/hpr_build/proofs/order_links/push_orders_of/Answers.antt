use Rattle.std.proofs.Common.{◌≡◌, ℕ, Some, slice_get, get_or, inl, inr, sym, arith}
use Rattle.std.proofs.lemmas.List.{get_or_default}
use Rattle.std.proofs.lemmas.Option.{slice_get-get_or}
use Rattle.hpr_build.proofs.ReachingRows.{row_reaching}
use Rattle.hpr_paths.specs.Successors.{spots}
use Rattle.hpr_graph.specs.Numbered.{HasLink}
use Rattle.hpr_build.specs.NewLinks.{OrdersAt, OrdersOf}
use Rattle.hpr_build.proofs.Families.{SomeOf, begun_family, turn_family, fresh_family, whole_family, other_family}
use Rattle.hpr_build.proofs.OrderFamily.{one_use, some_use, use_of_some, no_orders}
use Rattle.hpr_build.proofs.order_links.push_orders_of.Goals as goal

pub push_orders_at-requires-clause-user : goal.push_orders_at-requires-clause-user
push_orders_at-requires-clause-user c =
    let xs = c.args.variable.now.users.now in
    let k = c.loop-at.at in
    let u : ℕ = get_or xs k 0 in
    let is : u ≡ get_or xs k u = get_or_default xs k 0 u c.loop-at-test.true in
    (c.requires.variable.users u).0 (k, c.loop-at-test.true, sym is)

pub row_at-requires : goal.row_at-requires
row_at-requires c = omega (arith, c.loop-at-test.true, c.deref.ensures.len, c.in_ok-rows.ensures.len)

pub push_orders_at-requires-clause-ascending : goal.push_orders_at-requires-clause-ascending
push_orders_at-requires-clause-ascending c =
    let t = c.args.tables.now.program.now in
    let v = c.args.variable.now in
    let xs = v.users.now in
    let k = c.loop-at.at in
    let u : ℕ = get_or xs k 0 in
    let at : slice_get xs k ≡ Some u = slice_get-get_or xs k 0 c.loop-at-test.true in
    (row_reaching (spots t) v.name.now v.definitions.now xs c.in_ok-rows.rows.items c.deref.result.now k u c.row_at.result.now c.in_ok-rows.ensures.exact c.deref.ensures.value at c.row_at.ensures).0

pub push_orders_at-requires-clause-reaching : goal.push_orders_at-requires-clause-reaching
push_orders_at-requires-clause-reaching c =
    let t = c.args.tables.now.program.now in
    let v = c.args.variable.now in
    let xs = v.users.now in
    let k = c.loop-at.at in
    let u : ℕ = get_or xs k 0 in
    let at : slice_get xs k ≡ Some u = slice_get-get_or xs k 0 c.loop-at-test.true in
    (row_reaching (spots t) v.name.now v.definitions.now xs c.in_ok-rows.rows.items c.deref.result.now k u c.row_at.result.now c.in_ok-rows.ensures.exact c.deref.ensures.value at c.row_at.ensures).1

pub push_orders_at-requires-clause-fresh : goal.push_orders_at-requires-clause-fresh
push_orders_at-requires-clause-fresh c = λ to l.
    let t = c.args.tables.now.program.now in
    let x = c.args.variable.now.name.now in
    let xs = c.args.variable.now.users.now in
    let k = c.loop-at.at in
    let u : ℕ = get_or xs k 0 in
    let is : u ≡ get_or xs k u = get_or_default xs k 0 u c.loop-at-test.true in
    fresh_family xs (λ w. OrdersAt t x w to l) k (HasLink c.loop-at.graph to l) (HasLink c.args.graph.now to l) (c.loop-at.invariant.added to l) u c.loop-at-test.true is c.requires.variable.users_once
    (λ o p. c.requires.fresh to l o (u, p)) (λ w h q p. one_use t to l x w u q p)

pub loop-at-preserved : goal.loop-at-preserved
loop-at-preserved c =
    let t = c.args.tables.now.program.now in
    let x = c.args.variable.now.name.now in
    let xs = c.args.variable.now.users.now in
    let k = c.loop-at.at in
    let u : ℕ = get_or xs k 0 in
    let is : u ≡ get_or xs k u = get_or_default xs k 0 u c.loop-at-test.true in
    record {
      begun = c.in_ok-push_orders_at.ensures.begun;
      added = λ to l. turn_family xs (λ w. OrdersAt t x w to l) k (HasLink c.loop-at.graph to l) (HasLink c.args.graph.now to l) (c.loop-at.invariant.added to l) u c.loop-at-test.true is
          (HasLink c.push_orders_at.new.graph to l) (c.in_ok-push_orders_at.ensures.added to l);
    }

pub returns-clause-added : goal.returns-clause-added
returns-clause-added c = λ to l.
    let t = c.args.tables.now.program.now in
    let v = c.args.variable.now in
    let xs = v.users.now in
    other_family (HasLink c.loop-at.graph to l) (HasLink c.args.graph.now to l) (SomeOf xs (λ w. OrdersAt t v.name.now w to l)) (OrdersOf t v.name.now to l)
    (some_use t v c.requires.variable to l) (use_of_some t v c.requires.variable to l)
    (whole_family xs (λ w. OrdersAt t v.name.now w to l) c.loop-at.at (HasLink c.loop-at.graph to l) (HasLink c.args.graph.now to l) (c.loop-at.invariant.added to l) (omega (arith, c.loop-at-test.false)))

pub loop-at-init : goal.loop-at-init
loop-at-init c = record {
  begun = c.requires.begun;
  added = λ to l. begun_family (λ (u : ℕ). OrdersAt c.args.tables.now.program.now c.args.variable.now.name.now u to l) (HasLink c.args.graph.now to l);
}

pub returns-then-variable-lt2-clause-added : goal.returns-then-variable-lt2-clause-added
returns-then-variable-lt2-clause-added c = λ to l. (
  (λ h. inl h),
  (λ h. elim h [
    | inl was ↦ was
    | inr o ↦ absurd (no_orders c.args.tables.now.program.now c.args.variable.now c.requires.variable c.if-variable-lt2.true to l
        o)
  ]),
)
