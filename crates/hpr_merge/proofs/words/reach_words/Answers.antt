use Rattle.hpr_merge.proofs.Spreads.{mark_each}
use Rattle.hpr_merge.proofs.words.reach_words.Goals as goal

pub returns-clause-marks : goal.returns-clause-marks
returns-clause-marks c =
    mark_each c.args.steps.now c.args.points.now c.in_ok-words.words.items _ c.in_ok-words.ensures.bits c.spread.ensures.spread c.spread.ensures.closed
