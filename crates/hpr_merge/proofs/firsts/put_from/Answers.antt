use Rattle.std.proofs.Common.{◌≡◌, ℕ, ◌++◌, List, [], ap, ◌∙◌, subst, arith}
use Rattle.std.proofs.lemmas.List.{nil_from_length}
use Rattle.hpr_search.specs.Rows.{numbers_at}
use Rattle.hpr_merge.specs.Firsts.{ArePut}
use Rattle.hpr_merge.proofs.Putting.{spread_start, spread_step, spread_within, spread_closed}
use Rattle.hpr_merge.proofs.firsts.put_from.Goals as goal

pub loop-point-init : goal.loop-point-init
loop-point-init c = spread_start (numbers_at c.args.rows.now) c.args.link c.args.firsts.now.items c.put_one.new.firsts.items _
    c.put_one.new.waiting.items c.new-waiting.ensures.items c.requires.closed c.in_ok-put_one.ensures

pub push_steps-requires : goal.push_steps-requires
push_steps-requires c =
    let below = spread_within (numbers_at c.args.rows.now) c.args.link c.args.firsts.now.items c.loop-point.firsts.items c.loop-point.waiting.items
    c.pop.new.self.items c.in-Some.point c.in-Some.ensures.items c.loop-point.invariant in
    omega (arith, below, c.loop-point.invariant.put.count, c.requires.count)

pub loop-point-preserved : goal.loop-point-preserved
loop-point-preserved c =
    let steps : c.deref.result.now ≡ numbers_at c.args.rows.now c.in-Some.point = c.deref.ensures.value ∙ c.in_ok-push_steps.ensures.pushed ∙ ap
    (λ (xs : List ℕ). xs ++ numbers_at c.args.rows.now c.in-Some.point) c.clear.ensures.items in
    spread_step (numbers_at c.args.rows.now) c.args.link c.args.firsts.now.items c.loop-point.firsts.items c.put_all.new.firsts.items c.in-Some.point
    c.loop-point.waiting.items c.pop.new.self.items c.put_all.new.waiting.items c.in-Some.ensures.items c.loop-point.invariant
    (subst (λ (ps : List ℕ). ArePut ps c.args.link c.loop-point.firsts.items c.put_all.new.firsts.items c.pop.new.self.items
    c.put_all.new.waiting.items) steps c.in_ok-put_all.ensures)

pub returns-clause-closed : goal.returns-clause-closed
returns-clause-closed c =
    let empty = c.in_default.ensures.cases.0 in
    let none : c.loop-point.waiting.items ≡ [] = nil_from_length c.loop-point.waiting.items (omega (arith, empty)) in
    spread_closed (numbers_at c.args.rows.now) c.args.link c.args.firsts.now.items c.loop-point.firsts.items c.loop-point.waiting.items none
    c.loop-point.invariant
