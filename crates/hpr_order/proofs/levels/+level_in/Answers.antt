use Rattle.std.proofs.Common.{◌≡◌, ℕ, ◌-◌, ◌<◌, length, Option, Some, None, get_or, List, Bool, subst, ◌∙◌, sym, rules}
use Rattle.hpr_order.specs.declared.item.Item.{Item}
use Rattle.hpr_order.specs.Building.{IsSlot}
use Rattle.hpr_order.specs.Items.{slot_at}
use Rattle.hpr_order.specs.Limits.{level_in}
use Rattle.std.proofs.lemmas.Option.{slice_get-get_or}
use Rattle.hpr_order.proofs.Steps.{slot_fits, level_more}
use Rattle.hpr_order.proofs.levels.+level_in.Goals as goal

within : (items : List Item) (v : Option (ℕ × Bool)) (item : ℕ) (b : Bool) → IsSlot (length items) v → v ≡ Some (item, b) → item < length items
within items v item b slot is = subst (IsSlot (length items)) is slot

pub level_in-requires : goal.level_in-requires
level_in-requires t c =
    let lt : c.in-Some.item < length c.args.items.now = within c.args.items.now c.args.slot c.in-Some.item c.in-Some.field-0-1 c.requires.slot c.in-Some.is in (
      search rules,
      (
        c.requires.slots,
        slot_fits c.args.items.now c.in-Some.item (get_or c.args.items.now c.in-Some.item c.index-items-item.result) c.requires.slots
            (slice_get-get_or c.args.items.now c.in-Some.item c.index-items-item.result lt),
      ),
    )

pub returns-in_err-level_in-clause-level : goal.returns-in_err-level_in-clause-level
returns-in_err-level_in-clause-level t c =
    let lt : c.in-Some.item < length c.args.items.now = within c.args.items.now c.args.slot c.in-Some.item c.in-Some.field-0-1 c.requires.slot c.in-Some.is in
    let none : None ≡ level_in (slot_at c.args.items.now) (c.args.most - 1) (get_or c.args.items.now c.in-Some.item c.index-items-item.result).slot = sym c.in_err-level_in.was ∙ c.level_in.ensures.level in
    c.from_residual.ensures ∙ level_more c.args.items.now c.args.most c.in-Some.item c.in-Some.field-0-1 (get_or c.args.items.now c.in-Some.item c.index-items-item.result) None c.args.slot c.if-most-eq0.false
    (slice_get-get_or c.args.items.now c.in-Some.item c.index-items-item.result lt) none c.in-Some.is

pub returns-clause-level : goal.returns-clause-level
returns-clause-level t c =
    let lt : c.in-Some.item < length c.args.items.now = within c.args.items.now c.args.slot c.in-Some.item c.in-Some.field-0-1 c.requires.slot c.in-Some.is in
    let some : Some c.in_ok-level_in.field-0 ≡ level_in (slot_at c.args.items.now) (c.args.most - 1) (get_or c.args.items.now c.in-Some.item c.index-items-item.result).slot = sym c.in_ok-level_in.was ∙ c.level_in.ensures.level in
    level_more c.args.items.now c.args.most c.in-Some.item c.in-Some.field-0-1 (get_or c.args.items.now c.in-Some.item c.index-items-item.result) (Some c.in_ok-level_in.field-0) c.args.slot c.if-most-eq0.false
    (slice_get-get_or c.args.items.now c.in-Some.item c.index-items-item.result lt) some c.in-Some.is
