use Rattle.std.proofs.Common.{◌≡◌, ◌∙◌, ◌++◌, ◌∷◌, [], Some, true, false, refl, sym, ap}
use Rattle.std.proofs.lemmas.Result.{on_ok_weaker}
use Rattle.hpr_order.proofs.Slots.{always, first_kept, second_kept, put_at, put_top, with_first, with_second}
use Rattle.hpr_order.proofs.building.Pending.put.Goals as goal

pub returns-in-None : goal.returns-in-None
returns-in-None c =
    let top = λ (is : c.push_stmt.new.row.items ≡ c.args.self.now.top.items ++ c.args.stmt ∷ []).
    put_top c.args.self.now c.args.slot c.push_stmt.new.row c.args.stmt c.in-None.is is in
    record {
      put = on_ok_weaker c.push_stmt.result (λ is. (top is).put) c.push_stmt.ensures;
      rest = on_ok_weaker c.push_stmt.result (λ is. (top is).rest) c.push_stmt.ensures;
      count = always c.push_stmt.result refl;
    }

pub returns-in-Some-default-true : goal.returns-in-Some-default-true
returns-in-Some-default-true c =
    let slot = c.in-Some-default-true in
    let pushed = c.push_stmt-in-Some-default-true in
    let both = c.index_mut.result.now in
    let at : c.args.slot ≡ Some (slot.item, true) =
    slot.is ∙ ap (λ z. Some (slot.item, z)) (sym slot.field-0-1-is ∙ slot.field-0-1-test) in
    let there = λ (is : pushed.new.row.items ≡ both.first.items ++ c.args.stmt ∷ []).
    put_at c.args.self.now c.args.slot _ slot.item true both (with_first both pushed.new.row) both c.args.stmt
    slot.item-is at c.requires c.index_mut.ensures.value is (second_kept both pushed.new.row) in
    record {
      put = on_ok_weaker pushed.result (λ is. (there is).put) pushed.ensures;
      rest = on_ok_weaker pushed.result (λ is. (there is).rest) pushed.ensures;
      count = always pushed.result refl;
    }

pub returns-in-Some-default-false : goal.returns-in-Some-default-false
returns-in-Some-default-false c =
    let slot = c.in-Some-default-false in
    let pushed = c.push_stmt-in-Some-default-false in
    let both = c.index_mut-in-Some-default-false.result.now in
    let at : c.args.slot ≡ Some (slot.item, false) =
    slot.is ∙ ap (λ z. Some (slot.item, z)) (sym slot.field-0-1-is ∙ slot.field-0-1-test) in
    let there = λ (is : pushed.new.row.items ≡ both.second.items ++ c.args.stmt ∷ []).
    put_at c.args.self.now c.args.slot _ slot.item false both (with_second both pushed.new.row) both c.args.stmt
    slot.item-is at c.requires c.index_mut-in-Some-default-false.ensures.value is (first_kept both pushed.new.row) in
    record {
      put = on_ok_weaker pushed.result (λ is. (there is).put) pushed.ensures;
      rest = on_ok_weaker pushed.result (λ is. (there is).rest) pushed.ensures;
      count = always pushed.result refl;
    }
