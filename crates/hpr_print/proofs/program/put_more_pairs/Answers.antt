use Rattle.std.proofs.Common.{◌∙◌}
use Rattle.hpr_print.proofs.Texts.{pairs_step}
use Rattle.hpr_print.proofs.program.put_more_pairs.Goals as goal

pub loop-pair-preserved : goal.loop-pair-preserved
loop-pair-preserved c =
    pairs_step c.args.pairs.now c.loop-pair.pair-index _ c.loop-pair.out.items c.put.new.out.items c.put_pair.new.out.items c.loop-pair-test.true c.in_ok-put.ensures c.in_ok-put_pair.ensures
    ∙ c.loop-pair.invariant
