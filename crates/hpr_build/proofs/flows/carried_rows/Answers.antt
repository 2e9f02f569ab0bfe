use Rattle.std.proofs.Common.{length, ap, arith}
use Rattle.hpr_build.proofs.Cuts.{carries_more, carried_here}
use Rattle.hpr_build.proofs.flows.carried_rows.Goals as goal

pub loop-w-preserved : goal.loop-w-preserved
loop-w-preserved c = record {
  count = omega (arith, c.in_ok-push.ensures.len, c.loop-w.invariant.count);
  exact = carries_more c.args.succ.now c.args.name.now c.args.from c.loop-w.w-index c.loop-w.rows.items c.push.new.self.items c.in_ok-carried_row.field-0 (omega (arith, c.loop-w.invariant.count)) c.in_ok-push.ensures.items c.loop-w.invariant.exact
      (carried_here c.args.succ.now c.args.name.now c.args.from c.nest-w-items.result.now c.loop-w.w-index c.args.round.now c.is_marked.result c.in_ok-carried_row.field-0
      c.nest-w-items.ensures.nest c.is_marked.ensures c.requires.round c.in_ok-carried_row.ensures);
}

pub returns-clause-count : goal.returns-clause-count
returns-clause-count c =
    omega (arith, c.loop-w.invariant.count, c.loop-w-test.false, c.loop-w.auto.w-index-end, ap length c.nest-w-items.ensures.nest)

pub returns-clause-exact : goal.returns-clause-exact
returns-clause-exact c = λ i l. c.loop-w.invariant.exact i (omega (arith, l, c.loop-w.invariant.count))
