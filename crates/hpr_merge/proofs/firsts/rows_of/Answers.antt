use Rattle.std.proofs.Common.{ℕ, ◌∙◌, get_or, arith}
use Rattle.std.proofs.lemmas.List.Elements.{Contains-get_or}
use Rattle.hpr_graph.proofs.Lists.{in_none}
use Rattle.hpr_merge.proofs.Putting.{rows_more, rows_whole}
use Rattle.hpr_merge.proofs.firsts.rows_of.Goals as goal

pub loop-step-init : goal.loop-step-init
loop-step-init c = record {
  count = c.in_ok-rows.ensures.count;
  rows = λ from to. (λ h. absurd (c.in_ok-rows.ensures.blank from to h), λ h. absurd (in_none {X = ℕ × ℕ} (from, to) h));
}

pub push-requires-clause-at : goal.push-requires-clause-at
push-requires-clause-at c =
    let within = (c.requires (get_or c.args.steps.now c.loop-step.step-index (0, 0))
    (Contains-get_or c.args.steps.now c.loop-step.step-index (0, 0) c.loop-step-test.true)).0 in
    omega (arith, within, c.loop-step.invariant.count)

pub push-requires-clause-number : goal.push-requires-clause-number
push-requires-clause-number c =
    let within = (c.requires (get_or c.args.steps.now c.loop-step.step-index (0, 0))
    (Contains-get_or c.args.steps.now c.loop-step.step-index (0, 0) c.loop-step-test.true)).1 in
    omega (arith, within, c.loop-step.invariant.count)

pub loop-step-preserved : goal.loop-step-preserved
loop-step-preserved c = record {
  count = c.in_ok-push.ensures.count ∙ c.loop-step.invariant.count;
  rows = rows_more c.args.steps.now c.loop-step.step-index c.loop-step.rows c.push.new.self c.loop-step-test.true c.loop-step.invariant.rows
      c.in_ok-push.ensures.pushed;
}

pub returns-clause-rows : goal.returns-clause-rows
returns-clause-rows c = rows_whole c.args.steps.now c.loop-step.step-index c.loop-step.rows c.loop-step-test.false c.loop-step.invariant.rows
