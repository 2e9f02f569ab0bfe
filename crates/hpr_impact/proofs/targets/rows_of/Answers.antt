use Rattle.std.proofs.Common.{arith}
use Rattle.hpr_impact.proofs.Rows.{rows_none, rows_more, rows_all, step_within}
use Rattle.hpr_impact.proofs.targets.rows_of.Goals as goal

pub loop-step-init : goal.loop-step-init
loop-step-init c = record { count = c.in_ok-rows.ensures.count; rows = rows_none c.args.steps.now _ c.in_ok-rows.ensures.blank }

pub push-requires-clause-at : goal.push-requires-clause-at
push-requires-clause-at c =
    let within = step_within (0, 0) c.args.steps.now c.loop-step.step-index c.args.count c.loop-step-test.true c.requires in
    omega (arith, within.0, c.loop-step.invariant.count)

pub push-requires-clause-number : goal.push-requires-clause-number
push-requires-clause-number c =
    let within = step_within (0, 0) c.args.steps.now c.loop-step.step-index c.args.count c.loop-step-test.true c.requires in
    omega (arith, within.1, c.loop-step.invariant.count)

pub loop-step-preserved : goal.loop-step-preserved
loop-step-preserved c = record {
  count = omega (arith, c.in_ok-push.ensures.count, c.loop-step.invariant.count);
  rows = rows_more (0, 0) c.args.steps.now c.loop-step.step-index _ _ c.loop-step-test.true c.loop-step.invariant.rows c.in_ok-push.ensures.pushed;
}

pub returns-clause-exact : goal.returns-clause-exact
returns-clause-exact c = rows_all c.args.steps.now c.loop-step.step-index _ c.loop-step-test.false c.loop-step.invariant.rows
