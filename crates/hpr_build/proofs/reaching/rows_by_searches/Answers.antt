use Rattle.std.proofs.Common.{◌↔◌, ℕ, Bool, List, Contains, get_or, length, subst, arith}
use Rattle.std.proofs.lemmas.List.{get_or_default, take_all}
use Rattle.hpr_paths.specs.Spots.{Spot}
use Rattle.hpr_paths.specs.Successors.{spots}
use Rattle.hpr_build.specs.Reaching.{AreReached, AreReaching, IsSourceBelow}
use Rattle.hpr_build.proofs.OrderFamily.{points_within}
use Rattle.hpr_build.proofs.ReachingRows.{one_use_more, reaching_searched}
use Rattle.hpr_build.proofs.reaching.rows_by_searches.Goals as goal

pub searches-requires : goal.searches-requires
searches-requires c =
    let t = c.args.tables.now in
    points_within t.program.now c.args.variable.now c.requires.variable t.succ c.requires.tables.succ

pub loop-user-preserved : goal.loop-user-preserved
loop-user-preserved c =
    let t = c.args.tables.now.program.now in
    let v = c.args.variable.now in
    let xs = v.users.now in
    let k = c.loop-user.user-index in
    let u : ℕ = get_or xs k 0 in
    let reached = c.in_ok-reached.reached.items in
    let are : AreReached (spots t) v.name.now v.definitions.now reached =
    subst (λ (s : List Spot). AreReached s v.name.now v.definitions.now reached) c.requires.tables.succ c.in_ok-reached.ensures.exact in
    let row = c.in_ok-points_to.field-0 in
    let exact = λ (p : ℕ).
    subst (λ (rs : List (List Bool)). Contains row.items p ↔ IsSourceBelow (length v.definitions.now) v.definitions.now rs u p) c.deref.ensures.value (c.in_ok-points_to.ensures.exact p) in
    record {
      len = omega (arith, c.in_ok-push.ensures.len, c.loop-user.invariant.len);
      exact = one_use_more (spots t) v.name.now v.definitions.now xs k u c.loop-user.rows.items c.push.new.self.items row c.loop-user-test.true
          (get_or_default xs k 0 u c.loop-user-test.true) (omega (arith, c.loop-user.invariant.len, c.loop-user.rows.ok.0)) c.in_ok-push.ensures.items c.loop-user.invariant.exact
          (c.in_ok-points_to.ensures.ascending, reaching_searched (spots t) v.name.now v.definitions.now reached u row.items are exact);
    }

pub returns-clause-exact : goal.returns-clause-exact
returns-clause-exact c =
    let v = c.args.variable.now in
    subst (λ (us : List ℕ). AreReaching (spots c.args.tables.now.program.now) v.name.now v.definitions.now us c.loop-user.rows.items)
    (take_all c.loop-user.user-index v.users.now (omega (arith, c.loop-user-test.false))) c.loop-user.invariant.exact
