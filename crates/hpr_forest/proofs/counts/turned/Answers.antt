use Rattle.std.proofs.Common.{◌≡◌, ◌+◌, ℕ, cond, eqb, List, Contains, sym, ap, ◌∙◌, subst, arith, get_or}
use Rattle.std.proofs.lemmas.List.Elements.{Contains-get_or}
use Rattle.hpr_forest.specs.Counting.{occurrences, row_of}
use Rattle.hpr_forest.proofs.Counted.{row_read, turned_more, turned_none, turned_whole}
use Rattle.hpr_forest.proofs.counts.turned.Goals as goal

pub loop-at-init : goal.loop-at-init
loop-at-init c = record {
  count = c.in_ok-turned.ensures.count;
  turned = turned_none c.args.rows.now c.in_ok-turned.turned.items c.in_ok-turned.ensures.blank;
}

pub push_to_each-requires : goal.push_to_each-requires
push_to_each-requires c = λ k d lt.
    let row : c.deref.result.now ≡ row_of c.args.rows.now c.loop-at.at = c.deref.ensures.value ∙ sym (row_read c.args.rows.now c.loop-at.at c.index-rows-at.result c.loop-at-test.true c.index-rows-at.is) in
    let small = c.requires c.loop-at.at (get_or c.deref.result.now k d) (subst (λ (xs : List ℕ). Contains xs (get_or c.deref.result.now k d)) row (Contains-get_or c.deref.result.now k d lt)) in
    omega (arith, small, c.loop-at.invariant.count)

pub loop-at-preserved : goal.loop-at-preserved
loop-at-preserved c = record {
  count = c.in_ok-push_to_each.ensures.count ∙ c.loop-at.invariant.count;
  turned = turned_more c.args.rows.now c.loop-at.turned.items c.push_to_each.new.rows.items c.loop-at.at
      (λ d k. c.in_ok-push_to_each.ensures.rows d k ∙ ap (λ (xs : List ℕ). occurrences (row_of c.loop-at.turned.items d) k + cond (eqb c.loop-at.at k) (occurrences xs d) 0)
      (c.deref.ensures.value ∙ sym (row_read c.args.rows.now c.loop-at.at c.index-rows-at.result c.loop-at-test.true c.index-rows-at.is)))
      c.loop-at.invariant.turned;
}

pub returns-clause-turned : goal.returns-clause-turned
returns-clause-turned c = turned_whole c.args.rows.now c.loop-at.turned.items c.loop-at.at (omega (arith, c.loop-at-test.false)) c.loop-at.invariant.turned
