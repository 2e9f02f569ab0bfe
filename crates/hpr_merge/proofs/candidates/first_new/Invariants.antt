use Rattle.hpr_merge.specs.Candidates.{MayBeNew}
use Rattle.hpr_merge.proofs.FirstLinks.{NoneBefore}
use Rattle.hpr_merge.proofs.candidates.first_new.Given as goal

abbrev pub invariant-loop-link : goal.invariant-loop-link
invariant-loop-link l = NoneBefore (MayBeNew l.known l.far) l.links l.link-index
