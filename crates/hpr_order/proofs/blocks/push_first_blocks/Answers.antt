use Rattle.std.proofs.Common.{◌≡◌, ◌<◌, ℕ, Some, false, length, get_or, sym, subst, ap, ◌∙◌, arith, rules}
use Rattle.std.proofs.lemmas.List.Elements.{Contains-get_or}
use Rattle.std.proofs.lemmas.Option.{slice_get-get_or}
use Rattle.hpr_order.specs.Items.{slot_at, slot_in}
use Rattle.hpr_order.specs.Tables.{AreWithFirst}
use Rattle.hpr_order.proofs.ItemRows.{child_within, first_more, first_skipped, vec_row}
use Rattle.hpr_order.proofs.blocks.push_first_blocks.Goals as goal

pub loop-item-preserved-in_default : goal.loop-item-preserved-in_default
loop-item-preserved-in_default c = record {
  count = c.loop-item.invariant.count;
  rows = first_skipped c.args.items.now c.loop-item.item c.args.before.now c.loop-item.before
      (λ part is. c.in_default.ensures.none part (sym (ap slot_in (slice_get-get_or c.args.items.now c.loop-item.item _ c.loop-item-test.true)) ∙ is)) c.loop-item.invariant.rows;
}

pub offset_bounds-children-part : goal.offset_bounds-children-part
offset_bounds-children-part c =
    let at : slot_at c.args.items.now c.loop-item.item ≡ Some (c.in-Some.part, false) = ap slot_in (slice_get-get_or c.args.items.now c.loop-item.item _ c.loop-item-test.true) ∙ c.in-Some.ensures.some in
    let within : c.in-Some.part < length c.args.children.now = omega (arith, c.requires.slots c.loop-item.item c.in-Some.part false c.loop-item-test.true at, c.requires.children.count) in
    search (rules, within)

pub bounds-children-part : goal.bounds-children-part
bounds-children-part c =
    let at : slot_at c.args.items.now c.loop-item.item ≡ Some (c.in-Some.part, false) = ap slot_in (slice_get-get_or c.args.items.now c.loop-item.item _ c.loop-item-test.true) ∙ c.in-Some.ensures.some in
    omega (arith, c.requires.slots c.loop-item.item c.in-Some.part false c.loop-item-test.true at, c.requires.children.count)

pub push_first_block-requires-clause-siblings : goal.push_first_block-requires-clause-siblings
push_first_block-requires-clause-siblings c =
    let at : slot_at c.args.items.now c.loop-item.item ≡ Some (c.in-Some.part, false) = ap slot_in (slice_get-get_or c.args.items.now c.loop-item.item _ c.loop-item-test.true) ∙ c.in-Some.ensures.some in
    let within : c.in-Some.part < length c.args.items.now = c.requires.slots c.loop-item.item c.in-Some.part false c.loop-item-test.true at in
    λ k d h. child_within c.args.items.now c.args.children.now c.in-Some.part (get_or c.deref.result.now k d) c.deref.result.now c.requires.children within
    (vec_row c.args.children.now c.in-Some.part c.index-children-part.result c.deref.result.now (omega (arith, within, c.requires.children.count)) c.index-children-part.is c.deref.ensures.value) (Contains-get_or c.deref.result.now k d h)

pub loop-item-preserved : goal.loop-item-preserved
loop-item-preserved c =
    let at : slot_at c.args.items.now c.loop-item.item ≡ Some (c.in-Some.part, false) = ap slot_in (slice_get-get_or c.args.items.now c.loop-item.item _ c.loop-item-test.true) ∙ c.in-Some.ensures.some in
    let within : c.in-Some.part < length c.args.items.now = c.requires.slots c.loop-item.item c.in-Some.part false c.loop-item-test.true at in
    record {
      count = c.in_ok-push_first_block.ensures.count ∙ c.loop-item.invariant.count;
      rows = first_more c.args.items.now c.args.children.now c.loop-item.item c.in-Some.part c.deref.result.now c.args.before.now c.loop-item.before c.push_first_block.new.before
          c.requires.children within at
          (vec_row c.args.children.now c.in-Some.part c.index-children-part.result c.deref.result.now (omega (arith, within, c.requires.children.count)) c.index-children-part.is c.deref.ensures.value)
          c.in_ok-push_first_block.ensures.rows c.loop-item.invariant.rows;
    }

pub returns-clause-rows : goal.returns-clause-rows
returns-clause-rows c =
    let all : c.loop-item.item ≡ length c.args.items.now = omega (arith, c.loop-item-test.false, c.loop-item.auto.item-end) in
    subst (λ (n : ℕ). AreWithFirst c.args.items.now n c.args.before.now c.loop-item.before) all c.loop-item.invariant.rows
