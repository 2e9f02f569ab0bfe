use Rattle.std.proofs.Common.{◌⊎◌, ◌↔◌, ◌+◌, ◌<◌, ℕ, [], Bool, Option, List, Contains, length, vec_len, get_or, take, sym, ap, subst, arith}
use Rattle.std.proofs.lemmas.List.{take_all, get_or_default}
use Rattle.hpr_search.specs.Marks.{IsMarked}
use Rattle.hpr_paths.specs.Spots.{nest_at}
use Rattle.hpr_reach.specs.Flows.{ComesRound, PartsAt}
use Rattle.hpr_build.specs.declared.flows.Flow.{Flow}
use Rattle.hpr_build.specs.Flows.{IsFlowAt, IsFlowBelow}
use Rattle.hpr_graph.specs.Graphs.{IsOnce}
use Rattle.hpr_graph.proofs.Lists.{not_before}
use Rattle.hpr_build.proofs.Once.{nest_once}
use Rattle.hpr_build.proofs.UserFlows.{flows_more}
use Rattle.hpr_build.proofs.flows.flows_to.Goals as goal

pub cut_rows-requires-clause-round : goal.cut_rows-requires-clause-round
cut_rows-requires-clause-round c =
    subst (λ (row : List Bool). (w : ℕ) → IsMarked row w ↔ ComesRound c.args.succ.now c.args.name.now w c.args.from) (sym c.deref.ensures.value) c.in_ok-round.ensures

pub carried_rows-requires-clause-round : goal.carried_rows-requires-clause-round
carried_rows-requires-clause-round c =
    subst (λ (row : List Bool). (w : ℕ) → IsMarked row w ↔ ComesRound c.args.succ.now c.args.name.now w c.args.from) (sym c.deref-2.ensures.value) c.in_ok-round.ensures

pub loop-user-preserved : goal.loop-user-preserved
loop-user-preserved c =
    let s = c.args.succ.now in
    let d = c.args.from in
    let k = c.loop-user.user-index in
    let users = c.args.users.now in
    let u : ℕ = get_or users k 0 in
    let n = c.common_count-common.result in
    let parts : PartsAt (nest_at s d) (nest_at s u) n =
    subst (λ (xs : List ℕ). PartsAt xs (nest_at s u) n) c.nest-nest.ensures.nest
    (subst (λ (ys : List ℕ). PartsAt c.nest-nest.result.now ys n) c.nest.ensures.nest c.common_count-common.ensures) in
    let carries : List (Option (List Bool)) = c.in_ok-carries.carries.items in
    let row : List Bool = get_or c.in_ok-cuts.cuts.rows.items (get_or c.in_ok-cuts.cuts.places.items n 0) [] in
    let low : n < length (nest_at s d) + 1 = omega (arith, parts.left) in
    let new : (f : Flow) → Contains c.push_flows.new.into.items f ↔ (Contains c.loop-user.flows.items f ⊎ IsFlowBelow n (nest_at s d) row carries u f) =
    λ f. subst (λ (xs : List ℕ). Contains c.push_flows.new.into.items f ↔ (Contains c.loop-user.flows.items f ⊎ IsFlowBelow n xs row carries u f)) c.nest-nest.ensures.nest
    (subst (λ (r : List Bool). Contains c.push_flows.new.into.items f ↔ (Contains c.loop-user.flows.items f ⊎ IsFlowBelow n c.nest-nest.result.now r carries u f)) c.cut_row.ensures
    (subst (λ (rs : List (Option (List Bool))). Contains c.push_flows.new.into.items f ↔ (Contains c.loop-user.flows.items f ⊎ IsFlowBelow n c.nest-nest.result.now c.cut_row.result.now rs u f)) c.deref-in-loop-user.ensures.value (c.in_ok-push_flows.ensures.exact f))) in
    record {
      exact = flows_more s c.args.name.now d u n c.nest-nest.ensures.sound parts row carries (vec_len c.in_ok-carries.carries) (omega (arith, low, c.in_ok-carries.ensures.count)) (c.in_ok-cuts.ensures.exact n (omega (arith, low, c.in_ok-cuts.ensures.count))).1 c.in_ok-carries.ensures.exact users k c.loop-user.flows.items _ c.loop-user-test.true (get_or_default users k 0 u c.loop-user-test.true) c.loop-user.invariant.exact new;
      once = λ once. c.in_ok-push_flows.ensures.once (c.loop-user.invariant.once once) (subst (λ (xs : List ℕ). IsOnce xs) (sym c.nest-nest.ensures.nest) (nest_once s d c.nest-nest.ensures.sound))
          (λ f h e. not_before users k u once c.loop-user-test.true (get_or_default users k 0 u c.loop-user-test.true) (subst (λ (v : ℕ). Contains (take k users) v) e ((c.loop-user.invariant.exact f).0 h).0));
    }

pub returns-clause-exact : goal.returns-clause-exact
returns-clause-exact c = λ f.
    subst (λ (xs : List ℕ). Contains c.loop-user.flows.items f ↔ (Contains xs f.to × IsFlowAt c.args.succ.now c.args.name.now c.args.from f.to f.kind)) (take_all c.loop-user.user-index c.args.users.now (omega (arith, c.loop-user-test.false))) (c.loop-user.invariant.exact f)

pub cut_row-requires-clause-place : goal.cut_row-requires-clause-place
cut_row-requires-clause-place c = omega (arith, c.common_count-common.ensures.left, ap length c.nest-nest.ensures.nest, c.in_ok-cuts.ensures.count)

pub cut_row-requires-clause-row : goal.cut_row-requires-clause-row
cut_row-requires-clause-row c =
    let low : c.common_count-common.result < vec_len c.in_ok-cuts.cuts.places = omega (arith, c.common_count-common.ensures.left, ap length c.nest-nest.ensures.nest, c.in_ok-cuts.ensures.count) in
    omega (arith, (c.in_ok-cuts.ensures.exact c.common_count-common.result low).0)

pub push_flows-requires-clause-carries : goal.push_flows-requires-clause-carries
push_flows-requires-clause-carries c = omega (arith, c.common_count-common.ensures.left, ap length c.nest-nest.ensures.nest, c.in_ok-carries.ensures.count, c.deref-in-loop-user.ensures.len)

pub push_flows-requires-clause-nest : goal.push_flows-requires-clause-nest
push_flows-requires-clause-nest c = c.common_count-common.ensures.left

pub returns-clause-once : goal.returns-clause-once
returns-clause-once c = c.loop-user.invariant.once
