use Rattle.std.proofs.Common.{◌≡◌, false, cond, ℕ, List, ◌*◌, ◌≤◌, ◌+◌, ◌<◌, ◌++◌, drop, vec_len, ap, ◌∙◌, subst, sym, arith, rules}
use Rattle.std.proofs.lemmas.List.{drop_all}
use Rattle.std.proofs.lemmas.Result.{on_ok_weaker}
use Rattle.hpr_syntax.specs.declared.tree.Stmt.{Stmt}
use Rattle.hpr_syntax.specs.Body.{Body, done, part_count}
use Rattle.hpr_syntax.specs.BodyOf.{before, body_of}
use lib.Dec.{ltb}
use borrow.Author.Tests.{ltb-true, ltb-false}
use Rattle.hpr_paths.specs.Successors.{spots_of}
use Rattle.hpr_paths.proofs.Blocks.{count_if, count_simple, count_step, count_while, after_is, spots_if, spots_simple, spots_step, spots_while, spots_done}
use Rattle.hpr_paths.proofs.build.+push.Goals as goal

pub push_block-loop-i-init : goal.push_block-loop-i-init
push_block-loop-i-init t c =
    let view : c.args.block.now ≡ body_of c.deref-stmt-items.result.now = sym c.block.view_is ∙ ap body_of (sym c.deref-stmt-items.ensures.value) in
    record {
      view = view;
      part = omega (arith, ap part_count view);
      spots = ap (λ (b : Body). c.args.spots.now.items ++ spots_of b (vec_len c.args.spots.now) c.args.follow c.args.nest.now) (sym view);
      len = ap (λ (b : Body). vec_len c.args.spots.now + part_count b) (sym view);
    }

pub push_block-overflow_add-len : goal.push_block-overflow_add-len
push_block-overflow_add-len t c = omega (arith, c.loop-i.invariant.len, count_step c.deref-stmt-items.result.now c.loop-i.i c.stmt-item.result c.loop-i-test.true c.stmt-item.is)

pub push_block-push_stmt-requires : goal.push_block-push_stmt-requires
push_block-push_stmt-requires t c =
    let step : part_count (body_of (drop c.loop-i.i c.deref-stmt-items.result.now)) ≡ part_count (before c.stmt-item.result done) + part_count (body_of (drop (c.loop-i.i + 1) c.deref-stmt-items.result.now)) = count_step c.deref-stmt-items.result.now c.loop-i.i c.stmt-item.result c.loop-i-test.true c.stmt-item.is in
    let smaller : 2 * part_count (before c.stmt-item.result done) < 2 * part_count c.args.block.now + 1 = omega (arith, step, c.loop-i.invariant.part) in
    (search (rules, smaller), omega (arith, step))

pub push_block-loop-i-preserved : goal.push_block-loop-i-preserved
push_block-loop-i-preserved t c =
    let n_is : vec_len c.push_stmt.new.spots ≡ vec_len c.loop-i.spots + part_count (before c.stmt-item.result done) = c.in_ok-push_stmt.ensures.len in
    let next : c.len-in-loop-i.result + c.part_count.result ≡ vec_len c.push_stmt.new.spots = omega (arith, n_is) in
    record {
      view = c.loop-i.invariant.view;
      spots = spots_step _ _ _ c.deref-stmt-items.result.now c.loop-i.i (vec_len c.loop-i.spots) (vec_len c.push_stmt.new.spots) c.stmt-item.result c.args.follow _ c.args.nest.now c.loop-i-test.true c.stmt-item.is c.loop-i.invariant.spots c.in_ok-push_stmt.ensures.spots
          (c.after-after.ensures
          ∙ ap (λ (k : ℕ). cond (ltb (c.loop-i.i + 1) c.len.result) (record { to = k; back = false }) c.args.follow) next
          ∙ after_is c.deref-stmt-items.result.now (c.loop-i.i + 1) (vec_len c.push_stmt.new.spots) c.args.follow (ltb (c.loop-i.i + 1) c.len.result)
          (λ e. let l : c.loop-i.i + 1 < c.len.result = ltb-true _ _ e in omega arith) (λ e. let l : c.len.result ≤ c.loop-i.i + 1 = ltb-false _ _ e in omega arith)) n_is;
      part = omega (arith, c.loop-i.invariant.part, count_step c.deref-stmt-items.result.now c.loop-i.i c.stmt-item.result c.loop-i-test.true c.stmt-item.is);
      len = omega (arith, n_is, c.loop-i.invariant.len, count_step c.deref-stmt-items.result.now c.loop-i.i c.stmt-item.result c.loop-i-test.true c.stmt-item.is);
    }

pub push_block-returns-clause-spots : goal.push_block-returns-clause-spots
push_block-returns-clause-spots t c = spots_done _ _ c.deref-stmt-items.result.now c.loop-i.i (vec_len c.loop-i.spots) c.args.follow c.args.nest.now c.loop-i-test.false c.loop-i.invariant.spots

pub push_block-returns-clause-len : goal.push_block-returns-clause-len
push_block-returns-clause-len t c = omega (arith, c.loop-i.invariant.len, ap (λ (xs : List Stmt). part_count (body_of xs)) (drop_all c.loop-i.i c.deref-stmt-items.result.now c.loop-i-test.false))

pub push_stmt-overflow_add-first : goal.push_stmt-overflow_add-first
push_stmt-overflow_add-first t c = omega (arith, count_if c.args.stmt.now c.in-If.field-0 c.in-If.field-1 c.in-If.yes c.in-If.no c.in-If.is)

pub push_stmt-overflow_add-first-in-If : goal.push_stmt-overflow_add-first-in-If
push_stmt-overflow_add-first-in-If t c = omega (arith, count_if c.args.stmt.now c.in-If.field-0 c.in-If.field-1 c.in-If.yes c.in-If.no c.in-If.is)

pub push_stmt-overflow_add-first-in-If-2 : goal.push_stmt-overflow_add-first-in-If-2
push_stmt-overflow_add-first-in-If-2 t c = omega (arith, count_if c.args.stmt.now c.in-If.field-0 c.in-If.field-1 c.in-If.yes c.in-If.no c.in-If.is)

pub push_stmt-push_block-requires : goal.push_stmt-push_block-requires
push_stmt-push_block-requires t c =
    let parts : part_count (before c.args.stmt.now done) ≡ part_count c.in-If.yes + part_count c.in-If.no + 1 = count_if c.args.stmt.now c.in-If.field-0 c.in-If.field-1 c.in-If.yes c.in-If.no c.in-If.is in
    let smaller : 2 * part_count c.in-If.yes + 1 < 2 * part_count (before c.args.stmt.now done) = omega (arith, parts) in
    (search (rules, smaller), omega (arith, parts, c.in_ok-push_part-in-If.ensures.len))

pub push_stmt-push_block-requires-in-If : goal.push_stmt-push_block-requires-in-If
push_stmt-push_block-requires-in-If t c =
    let parts : part_count (before c.args.stmt.now done) ≡ part_count c.in-If.yes + part_count c.in-If.no + 1 = count_if c.args.stmt.now c.in-If.field-0 c.in-If.field-1 c.in-If.yes c.in-If.no c.in-If.is in
    let smaller : 2 * part_count c.in-If.no + 1 < 2 * part_count (before c.args.stmt.now done) = omega (arith, parts) in
    (search (rules, smaller), omega (arith, parts, c.in_ok-push_part-in-If.ensures.len, c.in_ok-push_block-in-If.ensures.len))

pub push_stmt-overflow_add-first-in-While : goal.push_stmt-overflow_add-first-in-While
push_stmt-overflow_add-first-in-While t c = omega (arith, count_while c.args.stmt.now c.in-While.field-0 c.in-While.field-1 c.in-While.body c.in-While.is)

pub push_stmt-push_block-requires-in-While : goal.push_stmt-push_block-requires-in-While
push_stmt-push_block-requires-in-While t c =
    let parts : part_count (before c.args.stmt.now done) ≡ part_count c.in-While.body + 1 = count_while c.args.stmt.now c.in-While.field-0 c.in-While.field-1 c.in-While.body c.in-While.is in
    let smaller : 2 * part_count c.in-While.body + 1 < 2 * part_count (before c.args.stmt.now done) = omega (arith, parts) in
    (search (rules, smaller), omega (arith, parts, c.in_ok-push_part-in-While.ensures.len))

pub push_stmt-returns-in_default-clause-spots : goal.push_stmt-returns-in_default-clause-spots
push_stmt-returns-in_default-clause-spots t c = on_ok_weaker c.push_part-in_default.result
    (spots_simple c.args.stmt.now (c.in_default.not-If, c.in_default.not-While) c.args.spots.now.items c.push_part-in_default.new.spots.items (vec_len c.args.spots.now) c.args.after c.args.nest.now) c.push_part-in_default.ensures.spot

pub push_stmt-returns-in_default-clause-len : goal.push_stmt-returns-in_default-clause-len
push_stmt-returns-in_default-clause-len t c = on_ok_weaker c.push_part-in_default.result
    (λ more. omega (arith, more, count_simple c.args.stmt.now (c.in_default.not-If, c.in_default.not-While))) c.push_part-in_default.ensures.len

pub push_stmt-returns-in_ok-push_part-in-While-clause-spots : goal.push_stmt-returns-in_ok-push_part-in-While-clause-spots
push_stmt-returns-in_ok-push_part-in-While-clause-spots t c =
    let one = c.in_ok-push_part-in-While.ensures in
    on_ok_weaker c.push_block-in-While.result (λ more.
    subst (λ (n : ℕ). c.push_block-in-While.new.spots.items ≡ c.args.spots.now.items ++ spots_of (before c.args.stmt.now done) n c.args.after c.args.nest.now) c.len-first.ensures
    (spots_while c.args.stmt.now c.in-While.field-0 c.in-While.field-1 c.in-While.body c.in-While.is c.args.spots.now.items c.push_part-in-While.new.spots.items c.push_block-in-While.new.spots.items
    c.len-first.result (vec_len c.push_part-in-While.new.spots) c.args.after c.first_step.result c.args.nest.now c.deref.result.now c.deref-in-While.result.now
    one.spot more c.first_step.ensures (c.deref.ensures.value ∙ c.in_ok-inside-in-While.ensures) (c.deref-in-While.ensures.value ∙ c.in_ok-inside-in-While.ensures) (omega (arith, one.len, c.len-first.ensures)))) c.push_block-in-While.ensures.spots

pub push_stmt-returns-in_ok-push_part-in-While-clause-len : goal.push_stmt-returns-in_ok-push_part-in-While-clause-len
push_stmt-returns-in_ok-push_part-in-While-clause-len t c = on_ok_weaker c.push_block-in-While.result
    (λ more. omega (arith, more, c.in_ok-push_part-in-While.ensures.len, count_while c.args.stmt.now c.in-While.field-0 c.in-While.field-1 c.in-While.body c.in-While.is)) c.push_block-in-While.ensures.len

pub push_stmt-returns-in_ok-push_block-in-If-clause-spots : goal.push_stmt-returns-in_ok-push_block-in-If-clause-spots
push_stmt-returns-in_ok-push_block-in-If-clause-spots t c =
    let one = c.in_ok-push_part-in-If.ensures in
    let two = c.in_ok-push_block-in-If.ensures in
    on_ok_weaker c.push_block-in-If.result (λ more.
    subst (λ (n : ℕ). c.push_block-in-If.new.spots.items ≡ c.args.spots.now.items ++ spots_of (before c.args.stmt.now done) n c.args.after c.args.nest.now) c.len-first.ensures
    (spots_if c.args.stmt.now c.in-If.field-0 c.in-If.field-1 c.in-If.yes c.in-If.no c.in-If.is c.args.spots.now.items c.push_part.new.spots.items c.push_block.new.spots.items c.push_block-in-If.new.spots.items
    c.len-first.result (vec_len c.push_part.new.spots) (vec_len c.push_block.new.spots) (c.len-first.result + 1 + c.part_count.result) c.args.after c.first_step-into_yes.result c.first_step-into_no.result c.args.nest.now
    one.spot two.spots more c.first_step-into_yes.ensures c.first_step-into_no.ensures (omega (arith, one.len, c.len-first.ensures)) (omega (arith, one.len, two.len, c.len-first.ensures)) (omega (arith, c.part_count.ensures)))) c.push_block-in-If.ensures.spots

pub push_stmt-returns-in_ok-push_block-in-If-clause-len : goal.push_stmt-returns-in_ok-push_block-in-If-clause-len
push_stmt-returns-in_ok-push_block-in-If-clause-len t c = on_ok_weaker c.push_block-in-If.result
    (λ more. omega (arith, more, c.in_ok-push_part-in-If.ensures.len, c.in_ok-push_block-in-If.ensures.len, count_if c.args.stmt.now c.in-If.field-0 c.in-If.field-1 c.in-If.yes c.in-If.no c.in-If.is)) c.push_block-in-If.ensures.len

pub push_block-part_count-requires : goal.push_block-part_count-requires
push_block-part_count-requires t c =
    omega (arith, c.requires, c.loop-i.invariant.part, count_step c.deref-stmt-items.result.now c.loop-i.i c.stmt-item.result c.loop-i-test.true c.stmt-item.is)

pub push_stmt-part_count-requires : goal.push_stmt-part_count-requires
push_stmt-part_count-requires t c = omega (arith, c.requires, count_if c.args.stmt.now c.in-If.field-0 c.in-If.field-1 c.in-If.yes c.in-If.no c.in-If.is)

pub push_block-loop-i-smaller : goal.push_block-loop-i-smaller
push_block-loop-i-smaller t c = omega (arith, c.loop-i-test.true)
