use Rattle.std.proofs.Common.{length, ap, arith}
use Rattle.hpr_slice.proofs.StepLists.{steps_whole, steps_within}
use Rattle.hpr_slice.proofs.steps.steps_of.Goals as goal

pub returns-clause-steps : goal.returns-clause-steps
returns-clause-steps c =
    steps_whole c.args.graph.now c.vertices-count.ensures.numbered c.loop-at.done.items c.loop-at.steps.items c.loop-at.at (omega (arith, c.loop-at-test.false, ap length c.vertices-count.ensures.vertices)) c.loop-at.invariant.marked
    c.loop-at.invariant.steps

pub returns-clause-within : goal.returns-clause-within
returns-clause-within c =
    steps_within c.args.graph.now c.vertices-count.ensures.numbered c.loop-at.steps.items
    (steps_whole c.args.graph.now c.vertices-count.ensures.numbered c.loop-at.done.items c.loop-at.steps.items c.loop-at.at (omega (arith, c.loop-at-test.false, ap length c.vertices-count.ensures.vertices)) c.loop-at.invariant.marked
    c.loop-at.invariant.steps)
