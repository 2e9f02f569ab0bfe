use Rattle.std.proofs.Common.{◌≡◌, length, Some, slice_get, true, false, ◌∙◌, sym, arith, rules}
use Rattle.hpr_order.specs.Limits.{is_unfit}
use Rattle.hpr_order.proofs.Climbs.{up_within}
use Rattle.hpr_order.proofs.Marked.{levels_are}
use Rattle.hpr_order.proofs.Steps.{read_of, slot_fits, level_pushed, within_all, not_unfit, not_shallow}
use Rattle.hpr_order.proofs.levels.levels_of.Goals as goal

pub loop-item-init : goal.loop-item-init
loop-item-init c = record {
  len = c.new-levels.ensures.len;
  levelled = record { levels = λ k lt. absurd (omega (arith, lt)); fit = λ k t c' lt i. absurd (omega (arith, lt)) };
}

pub returns-then-is_unfit-clause-none : goal.returns-then-is_unfit-clause-none
returns-then-is_unfit-clause-none c =
    let item : slice_get c.args.items.now c.loop-item.item-index ≡ Some c.item-item.result = read_of c.args.items.now c.loop-item.item-index c.item-item.result c.loop-item-test.true c.item-item.is in
    let unfit : is_unfit c.item-item.result.content ≡ true = sym c.is_unfit.ensures ∙ c.if-is_unfit.true in
    not_unfit c.args.items.now c.loop-item.item-index c.item-item.result item unfit

pub level_in-requires-clause-slot : goal.level_in-requires-clause-slot
level_in-requires-clause-slot c =
    slot_fits c.args.items.now c.loop-item.item-index c.item-item.result c.requires (read_of c.args.items.now c.loop-item.item-index c.item-item.result c.loop-item-test.true c.item-item.is)

pub returns-in_default-clause-none : goal.returns-in_default-clause-none
returns-in_default-clause-none c =
    not_shallow c.args.items.now c.loop-item.item-index c.item-item.result (read_of c.args.items.now c.loop-item.item-index c.item-item.result c.loop-item-test.true c.item-item.is)
    (sym c.level_in.ensures.level ∙ c.in_default.is)

pub loop-item-preserved : goal.loop-item-preserved
loop-item-preserved c =
    let item : slice_get c.args.items.now c.loop-item.item-index ≡ Some c.item-item.result = read_of c.args.items.now c.loop-item.item-index c.item-item.result c.loop-item-test.true c.item-item.is in
    let fit : is_unfit c.item-item.result.content ≡ false = sym c.is_unfit.ensures ∙ c.if-is_unfit.false in
    let len : length c.loop-item.levels.items ≡ c.loop-item.item-index = search (rules, c.loop-item.invariant.len) in
    record {
      len = omega (arith, c.in_ok-push.ensures.len, c.loop-item.invariant.len);
      levelled = level_pushed c.args.items.now c.loop-item.item-index c.loop-item.levels.items c.push.new.self.items c.item-item.result c.in-Some.level len item
          (sym c.level_in.ensures.level ∙ c.in-Some.is) fit c.in_ok-push.ensures.items c.loop-item.invariant.levelled;
    }

pub returns-clause-limits : goal.returns-clause-limits
returns-clause-limits c = within_all c.args.items.now c.loop-item.item-index c.loop-item.levels.items c.if-items-gt-MAX_PARTS.false c.loop-item-test.false c.loop-item.invariant.levelled

pub returns-clause-levels : goal.returns-clause-levels
returns-clause-levels c =
    let len : length c.loop-item.levels.items ≡ length c.args.items.now = omega (arith, c.loop-item.invariant.len, c.loop-item-test.false, c.loop-item.auto.item-index-end) in
    levels_are c.args.items.now c.loop-item.levels.items len (λ k lt. c.loop-item.invariant.levelled.levels k (omega (arith, lt, c.loop-item-test.false)))
    (λ k p lt e. up_within c.args.items.now c.requires k p lt e)
