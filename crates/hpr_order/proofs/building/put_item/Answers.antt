use Rattle.std.proofs.Common.{◌≡◌, ◌∙◌, sym, ap, subst, get_or, slice_get, Some, Ok, Err}
use Rattle.std.specs.Result.{OnOk}
use Rattle.std.specs.declared.result.Result.{Result}
use Rattle.std.proofs.lemmas.Option.{slice_get-get_or, get_or_from_slice_get}
use Rattle.hpr_syntax.specs.declared.rows.Content.{Content}
use Rattle.hpr_syntax.specs.Body.{done}
use Rattle.hpr_syntax.specs.BodyOf.{before}
use Rattle.hpr_order.specs.declared.item.Item.{Item}
use Rattle.hpr_order.specs.Building.{IsSlot}
use Rattle.hpr_order.specs.Items.{said}
use Rattle.hpr_order.proofs.Built.{is_put, put_blocks}
use Rattle.hpr_order.proofs.Steps.{slot_fits}
use Rattle.hpr_order.proofs.building.put_item.Goals as goal

on_two : {X E P Q R : Type 0} (r : Result X E) → OnOk r P → OnOk r Q → (P → Q → R) → OnOk r R
on_two (Ok x) p q f = f p q
on_two (Err e) p q f = tt

pub put-requires : goal.put-requires
put-requires c =
    let i = get_or c.args.items.now c.args.item c.index-items-item-3.result in
    subst (λ n. IsSlot n i.slot) (sym (c.take_second-no.ensures.count ∙ c.take_first-yes.ensures.count ∙ c.requires.count))
    (slot_fits c.args.items.now c.args.item i c.requires.slots (slice_get-get_or c.args.items.now c.args.item c.index-items-item-3.result c.requires.item))

pub returns-clause-blocks : goal.returns-clause-blocks
returns-clause-blocks c =
    let items = c.args.items.now in
    let item = c.args.item in
    let i : Item = get_or c.args.items.now c.args.item c.index-items-item-3.result in
    let at : slice_get items item ≡ Some i = slice_get-get_or items item c.index-items-item-3.result c.requires.item in
    let contents : get_or items item c.index-items-item.result ≡ i = get_or_from_slice_get items item i c.index-items-item.result at in
    let tags : get_or items item c.index-items-item-2.result ≡ i = get_or_from_slice_get items item i c.index-items-item-2.result at in
    let first = c.take_first-yes.result in
    let second = c.take_second-no.result in
    let says : before c.statement-stmt.result done ≡ said i.tag i.content first second done =
    c.statement-stmt.ensures
    ∙ ap (λ (z : Item). said z.tag c.in_ok-content.content first second done) tags
    ∙ ap (λ (z : Content). said i.tag z first second done) (c.in_ok-content.ensures ∙ ap (λ (z : Item). z.content) contents) in
    on_two c.put.result c.put.ensures.put c.put.ensures.rest (λ put rest order are out.
    put_blocks items c.args.pending.now c.put.new.self item i c.statement-stmt.result order at c.requires.item
    (is_put c.args.pending.now c.take_first-yes.new.self c.take_second-no.new.self c.put.new.self item i c.statement-stmt.result first second
    c.take_first-yes.ensures.block c.take_first-yes.ensures.rest c.take_second-no.ensures.block c.take_second-no.ensures.rest says put rest) are out)
