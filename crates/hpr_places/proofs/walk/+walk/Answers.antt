use Rattle.std.proofs.Common.{◌+◌, ◌++◌, drop, drop_of_length-le, sym, ap, ◌∙◌, append_assoc, arith}
use Rattle.std.proofs.lemmas.Grind.{common_steps}
use Rattle.std.proofs.lemmas.List.{append-nil}
use Rattle.hpr_syntax.specs.Body.{done}
use Rattle.hpr_syntax.specs.BodyOf.{before, body_of}
use Rattle.hpr_places.specs.Private.Walk.{Walked, walk}
use Rattle.hpr_places.proofs.Steps.{turn_end, turn_places, walk_ends, walk_finds, part_end, part_found, if_end, if_found, while_end, while_found, no_blocks}
use Rattle.hpr_places.proofs.walk.+walk.Goals as goal

pub walk_block-loop-stmt-preserved : goal.walk_block-loop-stmt-preserved
walk_block-loop-stmt-preserved t c =
    let bytes = c.args.bytes.now in
    let items = c.deref-stmt-items.result.now in
    let i = c.loop-stmt.stmt-index in
    let rest = body_of (drop (i + 1) items) in
    let one = walk bytes (before c.stmt-item.result done) c.loop-stmt.end in
    record {
      block = c.loop-stmt.invariant.block;
      grows = omega (arith, c.in_ok-end.ensures.grows, c.loop-stmt.invariant.grows);
      within = c.in_ok-end.ensures.within;
      end = ap (λ m. (walk bytes rest m).end) c.in_ok-end.ensures.end
          ∙ sym (turn_end bytes items i c.stmt-item.result c.loop-stmt.end c.loop-stmt-test.true c.stmt-item.is) ∙ c.loop-stmt.invariant.end;
      found = ap (λ ps. ps ++ (walk bytes rest c.in_ok-end.end).places) c.in_ok-end.ensures.found
          ∙ ap (λ m. (c.loop-stmt.found.items ++ one.places) ++ (walk bytes rest m).places) c.in_ok-end.ensures.end
          ∙ append_assoc c.loop-stmt.found.items one.places (walk bytes rest one.end).places
          ∙ ap (λ ps. c.loop-stmt.found.items ++ ps) (sym (turn_places bytes items i c.stmt-item.result c.loop-stmt.end c.loop-stmt-test.true c.stmt-item.is))
          ∙ c.loop-stmt.invariant.found;
    }

pub walk_block-returns-clause-end : goal.walk_block-returns-clause-end
walk_block-returns-clause-end t c =
    let over = drop_of_length-le c.deref-stmt-items.result.now c.loop-stmt-test.false in
    sym (walk_ends c.args.bytes.now _ c.loop-stmt.end (ap body_of over)) ∙ c.loop-stmt.invariant.end

pub walk_block-returns-clause-found : goal.walk_block-returns-clause-found
walk_block-returns-clause-found t c =
    let over = drop_of_length-le c.deref-stmt-items.result.now c.loop-stmt-test.false in
    sym (append-nil c.loop-stmt.found.items) ∙ ap (λ ps. c.loop-stmt.found.items ++ ps) (sym (walk_finds c.args.bytes.now _ c.loop-stmt.end (ap body_of over))) ∙ c.loop-stmt.invariant.found

pub walk_inside-returns-in_ok-end-in-If-2-clause-end : goal.walk_inside-returns-in_ok-end-in-If-2-clause-end
walk_inside-returns-in_ok-end-in-If-2-clause-end t c =
    if_end c.args.bytes.now c.args.stmt.now c.in-If.field-0 c.in-If.field-1 c.in-If.yes c.in-If.no c.args.at _ _ _ _ c.in-If.is c.opened-start.ensures.place
    c.in_ok-end-in-If.ensures.end c.in_ok-end-in-If-2.ensures.end c.closed.ensures.place

pub walk_inside-returns-in_ok-end-in-If-2-clause-found : goal.walk_inside-returns-in_ok-end-in-If-2-clause-found
walk_inside-returns-in_ok-end-in-If-2-clause-found t c =
    if_found c.args.bytes.now c.args.stmt.now c.in-If.field-0 c.in-If.field-1 c.in-If.yes c.in-If.no c.args.at _ _ _ _ _ c.in-If.is c.opened-start.ensures.place
    c.in_ok-end-in-If.ensures.end c.in_ok-end-in-If.ensures.found c.in_ok-end-in-If-2.ensures.found

pub walk_inside-returns-in_ok-end-in-While-clause-end : goal.walk_inside-returns-in_ok-end-in-While-clause-end
walk_inside-returns-in_ok-end-in-While-clause-end t c =
    while_end c.args.bytes.now c.args.stmt.now c.in-While.field-0 c.in-While.field-1 c.in-While.body c.args.at _ _ _ c.in-While.is c.opened-start.ensures.place
    c.in_ok-end-in-While.ensures.end c.closed-in-While.ensures.place

pub walk_inside-returns-in_ok-end-in-While-clause-found : goal.walk_inside-returns-in_ok-end-in-While-clause-found
walk_inside-returns-in_ok-end-in-While-clause-found t c =
    while_found c.args.bytes.now c.args.stmt.now c.in-While.field-0 c.in-While.field-1 c.in-While.body c.args.at _ _ _ c.in-While.is c.opened-start.ensures.place
    c.in_ok-end-in-While.ensures.found

pub walk_inside-returns-in_default : goal.walk_inside-returns-in_default
walk_inside-returns-in_default t c =
    let e = no_blocks c.args.bytes.now c.args.stmt.now c.args.at c.in_default.not-If c.in_default.not-While in
    record {
      end = c.opened-start.ensures.place ∙ sym (ap (λ (a : Walked). a.end) e);
      grows = c.opened-start.ensures.grows;
      within = c.opened-start.ensures.within;
      found = sym (append-nil c.args.found.now.items) ∙ ap (λ (a : Walked). c.args.found.now.items ++ a.places) (sym e);
    }

pub walk_part-returns-clause-end : goal.walk_part-returns-clause-end
walk_part-returns-clause-end t c = c.in_ok-end.ensures.end ∙ sym (part_end c.args.bytes.now c.args.stmt.now c.args.at)

pub walk_part-returns-clause-found : goal.walk_part-returns-clause-found
walk_part-returns-clause-found t c =
    part_found c.args.bytes.now c.args.stmt.now c.args.at c.tag-tag.result c.skip-first.result c.in_ok-end.end c.args.found.now.items _ c.walk_inside.new.found.items c.len-index.result _
    c.tag-tag.ensures c.skip-first.ensures.place c.in_ok-end.ensures.end c.in_ok-push.ensures.items c.in_ok-end.ensures.found (grind (arith, common_steps))
