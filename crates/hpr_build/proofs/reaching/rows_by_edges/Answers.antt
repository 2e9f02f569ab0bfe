use Rattle.std.proofs.Common.{◌↔◌, ◌<◌, ℕ, Bool, List, All, Contains, get_or, sym, subst, arith}
use Rattle.std.proofs.lemmas.List.{get_or_default, take_all}
use Rattle.hpr_search.specs.Marks.{IsMarked}
use Rattle.hpr_paths.specs.Successors.{spots}
use Rattle.hpr_build.specs.Reaching.{AreReaching}
use Rattle.hpr_build.proofs.OrderFamily.{points_within}
use Rattle.hpr_build.proofs.ReachingRows.{one_use_more}
use Rattle.hpr_build.proofs.reaching.rows_by_edges.Goals as goal

pub marked-requires : goal.marked-requires
marked-requires c =
    let t = c.args.tables.now in
    subst (λ (n : ℕ). All (λ d. d < n) c.args.variable.now.definitions.now) (sym c.points.ensures.points) (points_within t.program.now c.args.variable.now c.requires.variable t.succ c.requires.tables.succ)

pub row_for-requires-clause-definers : goal.row_for-requires-clause-definers
row_for-requires-clause-definers c =
    subst (λ (ms : List Bool). (p : ℕ) → IsMarked ms p ↔ Contains c.args.variable.now.definitions.now p) (sym c.deref.ensures.value) c.in_ok-definers.ensures

pub row_for-requires-clause-user : goal.row_for-requires-clause-user
row_for-requires-clause-user c =
    let xs = c.args.variable.now.users.now in
    let k = c.loop-user.user-index in
    let u : ℕ = get_or xs k 0 in
    (c.requires.variable.users u).0 (k, c.loop-user-test.true, sym (get_or_default xs k 0 u c.loop-user-test.true))

pub loop-user-preserved : goal.loop-user-preserved
loop-user-preserved c =
    let v = c.args.variable.now in
    let xs = v.users.now in
    let k = c.loop-user.user-index in
    let u : ℕ = get_or xs k 0 in
    record {
      len = omega (arith, c.in_ok-push.ensures.len, c.loop-user.invariant.len);
      exact = one_use_more (spots c.args.tables.now.program.now) v.name.now v.definitions.now xs k u c.loop-user.rows.items c.push.new.self.items c.in_ok-row.row c.loop-user-test.true
          (get_or_default xs k 0 u c.loop-user-test.true) (omega (arith, c.loop-user.invariant.len, c.loop-user.rows.ok.0)) c.in_ok-push.ensures.items
          c.loop-user.invariant.exact (c.in_ok-row.ensures.ascending, c.in_ok-row.ensures.exact);
    }

pub returns-clause-exact : goal.returns-clause-exact
returns-clause-exact c =
    let v = c.args.variable.now in
    subst (λ (us : List ℕ). AreReaching (spots c.args.tables.now.program.now) v.name.now v.definitions.now us c.loop-user.rows.items) (take_all c.loop-user.user-index v.users.now (omega (arith, c.loop-user-test.false))) c.loop-user.invariant.exact
