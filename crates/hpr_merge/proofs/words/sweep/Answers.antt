use Rattle.std.proofs.Common.{ℕ, ◌+◌, get_or, take, sym, subst, arith}
use Rattle.std.proofs.lemmas.List.Elements.{Contains-get_or}
use Rattle.hpr_graph.proofs.Lists.{in_taken}
use Rattle.hpr_merge.proofs.Spreads.{IsSwept, swept_none, swept_set, swept_kept, swept_whole}
use Rattle.hpr_merge.proofs.words.sweep.Goals as goal
use Rattle.hpr_merge.proofs.words.sweep.Goals.{then-widen, else-widen}

pub widen-requires-clause-from : goal.widen-requires-clause-from
widen-requires-clause-from c =
    omega (arith, (c.requires (get_or c.args.steps.now c.loop-step.step-index (0, 0)) (Contains-get_or c.args.steps.now c.loop-step.step-index (0, 0) c.loop-step-test.true)).0, c.loop-step.invariant.spread.count)

pub widen-requires-clause-to : goal.widen-requires-clause-to
widen-requires-clause-to c =
    omega (arith, (c.requires (get_or c.args.steps.now c.loop-step.step-index (0, 0)) (Contains-get_or c.args.steps.now c.loop-step.step-index (0, 0) c.loop-step-test.true)).1, c.loop-step.invariant.spread.count)

pub loop-step-init : goal.loop-step-init
loop-step-init c = swept_none _

pub loop-step-preserved : goal.loop-step-preserved
loop-step-preserved c =
    let steps = c.args.steps.now in
    let at = c.loop-step.step-index in
    let split = λ (s : ℕ × ℕ). in_taken steps at (0, 0) s c.loop-step-test.true in
    elim c.if-widen.branch [
      | then-widen w ↦
          subst (IsSwept (take (at + 1) steps) c.args.words.now.items c.widen.new.words.items) (sym w.more-is)
          (swept_set (take at steps) (take (at + 1) steps) (get_or steps at (0, 0)) c.args.words.now.items c.loop-step.words.items c.widen.new.words.items split c.loop-step.more c.loop-step.invariant c.widen.ensures.spread (c.widen.ensures.more w.if-widen.true))
      | else-widen w ↦
          subst (IsSwept (take (at + 1) steps) c.args.words.now.items c.widen.new.words.items) (sym w.more-is)
          (swept_kept (take at steps) (take (at + 1) steps) (get_or steps at (0, 0)) c.args.words.now.items c.loop-step.words.items c.widen.new.words.items split c.loop-step.more c.loop-step.invariant c.widen.ensures.spread
          (c.widen.ensures.same w.if-widen.false) (c.widen.ensures.closed w.if-widen.false))
    ]

pub returns-clause-closed : goal.returns-clause-closed
returns-clause-closed c = (swept_whole c.args.steps.now c.loop-step.step-index _ _ _ c.loop-step-test.false c.loop-step.invariant).closed
