use Rattle.std.proofs.Common.{◌+◌, ◌∙◌, [], replicate, ap, arith}
use Rattle.hpr_order.proofs.Joins.{blank_runs_more}
use Rattle.hpr_order.proofs.joining.blank_runs.Goals as goal

pub loop-preserved : goal.loop-preserved
loop-preserved c = blank_runs_more c.loop.runs.items c.push.new.self.items c.new.result c.loop.counter c.in_ok-push.ensures.items c.new.ensures.items c.loop.invariant

pub returns : goal.returns
returns c =
    blank_runs_more c.loop.runs.items c.push-2.new.self.items c.new-2.result c.loop.counter c.in_ok-push-2.ensures.items c.new-2.ensures.items c.loop.invariant
    ∙ ap (λ n. replicate (n + 1) []) (omega (arith, c.loop-test.false, c.loop.auto.counter-end))
