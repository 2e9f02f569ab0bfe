use Rattle.std.proofs.Common.{◌≡◌, ◌+◌, ◌-◌, ◌<◌, ◌↔◌, ◌++◌, ◌∷◌, ◌∙◌, ℕ, Bool, [], List, IsTrue, length, get_or, vec_len, ap, subst, arith}
use Rattle.hpr_search.specs.Marks.{IsMarked}
use Rattle.hpr_paths.specs.Spots.{nest_at}
use Rattle.hpr_build.specs.Flows.{CutsTo}
use Rattle.hpr_build.proofs.Cuts.{cuts_begun, last_place, same_cut, cuts_more}
use Rattle.hpr_build.proofs.flows.cut_rows.Goals as goal

pub loop-i-init : goal.loop-i-init
loop-i-init c =
    let rows = c.in_ok-push.ensures.items ∙ ap (λ (xs : List (List Bool)). xs ++ c.args.all ∷ []) c.new-rows.ensures.items in
    let places = c.in_ok-push-2.ensures.items ∙ ap (λ (xs : List ℕ). xs ++ 0 ∷ []) c.new-places.ensures.items in
    record {
      count = omega (arith, c.in_ok-push-2.ensures.len, c.new-places.ensures.len);
      last = omega (arith, c.in_ok-push.ensures.len, c.new-rows.ensures.len, ap (λ (xs : List ℕ). get_or xs 0 0) places);
      exact = cuts_begun c.args.succ.now c.args.name.now c.args.from c.args.all _ _ rows places c.requires.all;
    }

pub add_row-requires-clause-last : goal.add_row-requires-clause-last
add_row-requires-clause-last c = λ off.
    let s = c.args.succ.now in
    let d = c.args.from in
    let i = c.loop-i.i in
    let at : get_or c.loop-i.places.items i 0 ≡ vec_len c.loop-i.rows - 1 = omega (arith, c.loop-i.invariant.last) in
    let row : CutsTo s c.args.name.now d i (get_or c.loop-i.rows.items (vec_len c.loop-i.rows - 1) []) = subst (λ (p : ℕ). CutsTo s c.args.name.now d i (get_or c.loop-i.rows.items p [])) at (c.loop-i.invariant.exact i (omega arith)).1 in
    let nest : List ℕ = nest_at s d in
    let within : i < length nest = subst (λ (xs : List ℕ). i < length xs) c.nest-nest.ensures.nest c.loop-i-test.true in
    let marked : IsTrue c.is_marked-comes.result ↔ IsMarked c.args.round.now (get_or nest i 0) = subst (λ (xs : List ℕ). IsTrue c.is_marked-comes.result ↔ IsMarked c.args.round.now (get_or xs i 0)) c.nest-nest.ensures.nest c.is_marked-comes.ensures in
    same_cut s c.args.name.now d i _ within (λ round. off (marked.1 ((c.requires.round (get_or nest i 0)).1 round))) row

pub loop-i-preserved : goal.loop-i-preserved
loop-i-preserved c = record {
  count = omega (arith, c.in_ok-push-3.ensures.len, c.loop-i.invariant.count);
  last = omega (arith, c.in_ok-add_row.ensures.last, last_place c.loop-i.places.items c.push-in-loop-i.new.self.items c.in_ok-add_row.field-0 0 (c.loop-i.i + 1) (omega (arith, c.loop-i.invariant.count)) c.in_ok-push-3.ensures.items);
  exact = cuts_more c.args.succ.now c.args.name.now c.args.from (c.loop-i.i + 1) c.in_ok-add_row.field-0 c.loop-i.rows.items c.add_row.new.rows.items c.loop-i.places.items c.push-in-loop-i.new.self.items (omega (arith, c.loop-i.invariant.count)) c.in_ok-push-3.ensures.items c.loop-i.invariant.exact c.in_ok-add_row.ensures.kept (omega (arith, c.in_ok-add_row.ensures.last)) c.in_ok-add_row.ensures.row;
}

pub add_row-requires-clause-cut : goal.add_row-requires-clause-cut
add_row-requires-clause-cut c = omega (arith, c.loop-i-test.true, ap length c.nest-nest.ensures.nest)

pub returns-clause-count : goal.returns-clause-count
returns-clause-count c = omega (arith, c.loop-i.invariant.count, c.loop-i-test.false, c.loop-i.auto.i-end, ap length c.nest-nest.ensures.nest)

pub returns-clause-exact : goal.returns-clause-exact
returns-clause-exact c = λ k l. c.loop-i.invariant.exact k (omega (arith, l, c.loop-i.invariant.count))
