use Rattle.hpr_merge.proofs.NewLinks.{AreCandidatesTo}
use Rattle.hpr_merge.proofs.candidates.candidates.Given as goal

abbrev pub invariant-loop-to : goal.invariant-loop-to
invariant-loop-to l = AreCandidatesTo l.merged l.variant l.near l.far l.to l.found.items
