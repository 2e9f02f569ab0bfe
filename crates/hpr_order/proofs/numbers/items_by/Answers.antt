use Rattle.std.proofs.Common.{◌≡◌, ℕ, Some, length, get_or, slice_get, sym, ◌∙◌, subst, arith, rules}
use Rattle.std.proofs.lemmas.Option.{slice_get-get_or, slice_get_within}
use Rattle.hpr_terms.proofs.Facts.{some_inj}
use Rattle.hpr_order.specs.Arranging.{IsProperItem}
use Rattle.hpr_order.specs.Numbers.{IsItemAt}
use Rattle.hpr_order.proofs.Itemized.{are_items_of}
use Rattle.hpr_order.proofs.Steps.{line_more}
use Rattle.hpr_order.proofs.numbers.items_by.Goals as goal

pub loop-number-preserved : goal.loop-number-preserved
loop-number-preserved c =
    let number : ℕ = get_or c.args.numbers.now c.loop-number.number-index 0 in
    let here : slice_get c.args.numbers.now c.loop-number.number-index ≡ Some number = slice_get-get_or c.args.numbers.now c.loop-number.number-index 0 c.loop-number-test.true in
    record {
      len = omega (arith, c.in_ok-push.ensures.len, c.loop-number.invariant.len);
      at = line_more (λ n i. IsItemAt c.args.graph.now c.args.regions.now c.args.places.now n i × IsProperItem i) c.args.numbers.now c.loop-number.items.items c.push.new.self.items c.loop-number.number-index
          c.in_ok-item_at.field-0 (search (rules, c.loop-number.invariant.len))
          (λ n e. (subst (λ z. IsItemAt c.args.graph.now c.args.regions.now c.args.places.now z c.in_ok-item_at.field-0) (some_inj number n (sym here ∙ e)) c.in_ok-item_at.ensures.at, c.in_ok-item_at.ensures.proper))
          c.in_ok-push.ensures.items c.loop-number.invariant.at;
    }

pub returns : goal.returns
returns c =
    let count : length c.loop-number.items.items ≡ length c.args.numbers.now = omega (arith, c.loop-number.invariant.len, c.loop-number-test.false, c.loop-number.auto.number-index-end) in
    are_items_of c.args.graph.now c.requires.numbered c.args.regions.now c.requires.regions c.args.numbers.now c.requires.numbers c.args.places.now c.requires.places
    c.loop-number.items.items count (λ k n e. c.loop-number.invariant.at k n (let lt = slice_get_within c.args.numbers.now k n e in omega (arith, lt, c.loop-number-test.false)) e)

pub item_at-requires-clause-part : goal.item_at-requires-clause-part
item_at-requires-clause-part c = c.requires.numbers.parts c.loop-number.number-index _ (slice_get-get_or c.args.numbers.now c.loop-number.number-index 0 c.loop-number-test.true)
