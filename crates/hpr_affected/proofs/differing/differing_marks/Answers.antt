use Rattle.std.proofs.Common.{length, ap, arith}
use Rattle.hpr_affected.proofs.MarkRows.{differing_none, differing_more, differing_all}
use Rattle.hpr_affected.proofs.differing.differing_marks.Goals as goal

pub loop-at-init : goal.loop-at-init
loop-at-init c = differing_none c.args.graph.now c.args.other.now c.args.numbers.now c.in_ok-marks.marks.items _ (ap length c.vertices-count.ensures.vertices) c.in_ok-marks.ensures

pub loop-at-preserved : goal.loop-at-preserved
loop-at-preserved c =
    differing_more c.args.graph.now c.args.other.now c.args.numbers.now c.loop-at.marks.items c.mark_lacking.new.marks.items c.loop-at.at c.loop-at.invariant c.mark_lacking.ensures.count c.mark_lacking.ensures.exact

pub returns : goal.returns
returns c =
    differing_all c.args.graph.now c.args.other.now c.args.numbers.now c.vertices-count.ensures.numbered c.loop-at.marks.items c.loop-at.at (omega (arith, c.loop-at-test.false, ap length c.vertices-count.ensures.vertices)) c.loop-at.invariant
