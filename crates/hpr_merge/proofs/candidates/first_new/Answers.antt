use Rattle.hpr_merge.specs.Candidates.{MayBeNew}
use Rattle.hpr_merge.proofs.NewLinks.{no_link}
use Rattle.hpr_merge.proofs.FirstLinks.{none_next, none_whole}
use Rattle.hpr_merge.proofs.candidates.first_new.Goals as goal

pub loop-link-preserved : goal.loop-link-preserved
loop-link-preserved c =
    none_next (MayBeNew c.args.known.now c.args.far.now) c.args.links.now c.loop-link.link-index no_link c.loop-link-test.true
    (λ may. may (c.has_sorted.ensures.0 c.if-not-has_sorted.false, c.is_settled.ensures.0 c.if-not-is_settled.false)) c.loop-link.invariant

pub returns : goal.returns
returns c = none_whole (MayBeNew c.args.known.now c.args.far.now) c.args.links.now c.loop-link.link-index c.loop-link-test.false c.loop-link.invariant
