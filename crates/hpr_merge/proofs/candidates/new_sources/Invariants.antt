use Rattle.hpr_merge.proofs.NewLinks.{AreNewTo}
use Rattle.hpr_merge.proofs.candidates.new_sources.Given as goal

abbrev pub invariant-loop-to : goal.invariant-loop-to
invariant-loop-to l = AreNewTo l.merged l.variant l.near l.to l.sources.items
