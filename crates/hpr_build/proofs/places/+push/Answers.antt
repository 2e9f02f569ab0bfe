use Rattle.std.proofs.Common.{◌≡◌, ◌<◌, ◌+◌, ◌*◌, ◌++◌, ◌∙◌, List, drop, vec_len, sym, ap, arith, rules}
use Rattle.std.proofs.lemmas.List.{append-nil, drop_all}
use Rattle.hpr_syntax.specs.declared.tree.Stmt.{Stmt}
use Rattle.hpr_syntax.specs.Body.{Body, done, part_count}
use Rattle.hpr_syntax.specs.BodyOf.{before, body_of}
use Rattle.hpr_syntax.proofs.RowLemmas.{drop_turn}
use Rattle.hpr_paths.proofs.Blocks.{count_if, count_simple, count_while}
use Rattle.hpr_build.specs.Places.{places_of}
use Rattle.hpr_build.proofs.PlaceTurns.{turn_places, turn_parts, stmt_while, stmt_if, stmt_simple}
use Rattle.hpr_build.proofs.StageTurns.{on_ok}
use Rattle.hpr_build.proofs.places.+push.Goals as goal

pub push_block-loop-stmt-init : goal.push_block-loop-stmt-init
push_block-loop-stmt-init n c =
    let view : c.args.block.now ≡ body_of c.deref-stmt-items.result.now = sym c.block.view_is ∙ ap body_of (sym c.deref-stmt-items.ensures.value) in
    record {
      view = view;
      part = omega (arith, ap part_count view);
      places = ap (λ (b : Body). c.args.places.now.items ++ places_of b (vec_len c.args.places.now + 1) c.args.parent c.args.others.now) (sym view);
      len = ap (λ (b : Body). vec_len c.args.places.now + part_count b) (sym view);
    }

pub push_block-push_stmt-requires : goal.push_block-push_stmt-requires
push_block-push_stmt-requires n c =
    let parts : part_count (body_of (drop c.loop-stmt.stmt-index c.deref-stmt-items.result.now)) ≡ part_count (before c.stmt-item.result done) + part_count (body_of (drop (c.loop-stmt.stmt-index + 1) c.deref-stmt-items.result.now)) =
    turn_parts _ _ _ (drop_turn c.deref-stmt-items.result.now c.loop-stmt.stmt-index c.stmt-item.result c.loop-stmt-test.true c.stmt-item.is) in
    let smaller : 2 * part_count (before c.stmt-item.result done) < 2 * part_count c.args.block.now + 1 = omega (arith, parts, c.loop-stmt.invariant.part) in
    (search (rules, smaller), omega (arith, parts))

pub push_block-loop-stmt-preserved : goal.push_block-loop-stmt-preserved
push_block-loop-stmt-preserved n c =
    let turn = drop_turn c.deref-stmt-items.result.now c.loop-stmt.stmt-index c.stmt-item.result c.loop-stmt-test.true c.stmt-item.is in
    let parts = turn_parts _ _ _ turn in
    record {
      view = c.loop-stmt.invariant.view;
      part = omega (arith, parts, c.loop-stmt.invariant.part);
      places = turn_places c.args.parent c.args.others.now c.loop-stmt.places.items c.push_stmt.new.places.items _ _ _ c.stmt-item.result _ _ turn c.in_ok-push_stmt.ensures.places (omega (arith, c.in_ok-push_stmt.ensures.len)) c.loop-stmt.invariant.places;
      len = omega (arith, parts, c.in_ok-push_stmt.ensures.len, c.loop-stmt.invariant.len);
    }

pub push_block-returns-clause-places : goal.push_block-returns-clause-places
push_block-returns-clause-places n c =
    sym (append-nil c.loop-stmt.places.items)
    ∙ sym (ap (λ (xs : List Stmt). c.loop-stmt.places.items ++ places_of (body_of xs) (vec_len c.loop-stmt.places + 1) c.args.parent c.args.others.now) (drop_all c.loop-stmt.stmt-index c.deref-stmt-items.result.now c.loop-stmt-test.false))
    ∙ c.loop-stmt.invariant.places

pub push_block-returns-clause-len : goal.push_block-returns-clause-len
push_block-returns-clause-len n c = omega (arith, c.loop-stmt.invariant.len, ap (λ (xs : List Stmt). part_count (body_of xs)) (drop_all c.loop-stmt.stmt-index c.deref-stmt-items.result.now c.loop-stmt-test.false))

pub push_stmt-push_block-requires : goal.push_stmt-push_block-requires
push_stmt-push_block-requires n c =
    let parts : part_count (before c.args.stmt.now done) ≡ part_count c.in-If.yes + part_count c.in-If.no + 1 = count_if c.args.stmt.now c.in-If.field-0 c.in-If.field-1 c.in-If.yes c.in-If.no c.in-If.is in
    let smaller : 2 * part_count c.in-If.yes + 1 < 2 * part_count (before c.args.stmt.now done) = omega (arith, parts) in
    (search (rules, smaller), omega (arith, parts, c.in_ok-push_place.ensures.len))

pub push_stmt-push_block-requires-in-If : goal.push_stmt-push_block-requires-in-If
push_stmt-push_block-requires-in-If n c =
    let parts : part_count (before c.args.stmt.now done) ≡ part_count c.in-If.yes + part_count c.in-If.no + 1 = count_if c.args.stmt.now c.in-If.field-0 c.in-If.field-1 c.in-If.yes c.in-If.no c.in-If.is in
    let smaller : 2 * part_count c.in-If.no + 1 < 2 * part_count (before c.args.stmt.now done) = omega (arith, parts) in
    (search (rules, smaller), omega (arith, parts, c.in_ok-push_place.ensures.len, c.in_ok-push_block-in-If.ensures.len))

pub push_stmt-push_block-requires-in-While : goal.push_stmt-push_block-requires-in-While
push_stmt-push_block-requires-in-While n c =
    let parts : part_count (before c.args.stmt.now done) ≡ part_count c.in-While.body + 1 = count_while c.args.stmt.now c.in-While.field-0 c.in-While.field-1 c.in-While.body c.in-While.is in
    let smaller : 2 * part_count c.in-While.body + 1 < 2 * part_count (before c.args.stmt.now done) = omega (arith, parts) in
    (search (rules, smaller), omega (arith, parts, c.in_ok-push_place.ensures.len))

pub push_stmt-returns-in_default-clause-places : goal.push_stmt-returns-in_default-clause-places
push_stmt-returns-in_default-clause-places n c =
    stmt_simple c.args.parent c.args.others.now c.args.stmt.now (c.in_default.not-If, c.in_default.not-While) c.args.places.now.items c.push_place.new.places.items _ c.in_ok-push_place.ensures.place

pub push_stmt-returns-in_default-clause-len : goal.push_stmt-returns-in_default-clause-len
push_stmt-returns-in_default-clause-len n c = omega (arith, c.in_ok-push_place.ensures.len, count_simple c.args.stmt.now (c.in_default.not-If, c.in_default.not-While))

pub push_stmt-returns-in-While-clause-places : goal.push_stmt-returns-in-While-clause-places
push_stmt-returns-in-While-clause-places n c =
    let one = c.in_ok-push_place.ensures in
    on_ok c.push_block-in-While.result _ _ (λ more.
    stmt_while c.args.parent c.args.others.now c.args.stmt.now c.in-While.field-0 c.in-While.field-1 c.in-While.body c.in-While.is c.args.places.now.items c.push_place.new.places.items c.push_block-in-While.new.places.items
    (vec_len c.args.places.now + 1) (vec_len c.push_place.new.places + 1) (c.len-point.result + 1) c.under-in-While.result one.place more c.under-in-While.ensures (omega (arith, c.len-point.ensures)) (omega (arith, one.len))) c.push_block-in-While.ensures.places

pub push_stmt-returns-in-While-clause-len : goal.push_stmt-returns-in-While-clause-len
push_stmt-returns-in-While-clause-len n c =
    on_ok c.push_block-in-While.result _ _ (λ more. omega (arith, more, c.in_ok-push_place.ensures.len, count_while c.args.stmt.now c.in-While.field-0 c.in-While.field-1 c.in-While.body c.in-While.is)) c.push_block-in-While.ensures.len

pub push_stmt-returns-in_ok-push_block-in-If-clause-places : goal.push_stmt-returns-in_ok-push_block-in-If-clause-places
push_stmt-returns-in_ok-push_block-in-If-clause-places n c =
    let one = c.in_ok-push_place.ensures in
    let two = c.in_ok-push_block-in-If.ensures in
    on_ok c.push_block-in-If.result _ _ (λ more.
    stmt_if c.args.parent c.args.others.now c.args.stmt.now c.in-If.field-0 c.in-If.field-1 c.in-If.yes c.in-If.no c.in-If.is c.args.places.now.items c.push_place.new.places.items c.push_block.new.places.items c.push_block-in-If.new.places.items
    (vec_len c.args.places.now + 1) (vec_len c.push_place.new.places + 1) (vec_len c.push_block.new.places + 1) (c.len-point.result + 1) _ _ c.under.result c.under-in-If.result c.deref.result.now
    one.place two.places more (c.deref.ensures.value ∙ c.in_ok-inside-in-If.ensures) c.under.ensures c.under-in-If.ensures (omega (arith, c.len-point.ensures)) (omega (arith, one.len)) (omega (arith, one.len, two.len))
    (omega (arith, c.len-point.ensures, c.part_count.ensures)) (omega (arith, c.len-point.ensures, c.part_count.ensures, c.part_count-in-If.ensures))) c.push_block-in-If.ensures.places

pub push_stmt-returns-in_ok-push_block-in-If-clause-len : goal.push_stmt-returns-in_ok-push_block-in-If-clause-len
push_stmt-returns-in_ok-push_block-in-If-clause-len n c =
    on_ok c.push_block-in-If.result _ _
    (λ more. omega (arith, more, c.in_ok-push_place.ensures.len, c.in_ok-push_block-in-If.ensures.len, count_if c.args.stmt.now c.in-If.field-0 c.in-If.field-1 c.in-If.yes c.in-If.no c.in-If.is)) c.push_block-in-If.ensures.len
