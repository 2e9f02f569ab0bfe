use Rattle.std.proofs.Common.{◌∙◌, get_or, length, ap}
use Rattle.std.proofs.lemmas.List.{length-replicate}
use Rattle.std.proofs.lemmas.Option.{slice_get-get_or}
use Rattle.hpr_merge.proofs.Spreads.{starts_none, starts_more, starts_whole}
use Rattle.hpr_merge.proofs.words.start_words.Goals as goal

pub loop-at-init : goal.loop-at-init
loop-at-init c = record {
  count = ap length c.in_ok-words.ensures ∙ length-replicate c.args.count 0;
  bits = starts_none c.args.points.now _ _ c.in_ok-words.ensures;
}

pub loop-at-preserved : goal.loop-at-preserved
loop-at-preserved c = record {
  count = c.put_bit.ensures.count ∙ c.loop-at.invariant.count;
  bits = starts_more c.args.points.now c.loop-at.words.items _ c.loop-at.at (get_or c.args.points.now c.loop-at.at 0) (slice_get-get_or c.args.points.now c.loop-at.at 0 c.loop-at-test.true) c.loop-at.invariant.bits c.put_bit.ensures.bits;
}

pub returns-clause-bits : goal.returns-clause-bits
returns-clause-bits c = starts_whole c.args.points.now _ c.loop-at.at c.loop-at-test.false c.loop-at.invariant.bits
