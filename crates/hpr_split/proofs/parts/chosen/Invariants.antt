use Rattle.hpr_split.proofs.Chosen.{AreChosen}
use Rattle.hpr_split.proofs.parts.chosen.Given as goal

abbrev pub invariant-loop-at : goal.invariant-loop-at
invariant-loop-at l = AreChosen l.vertices l.keep l.at l.parts.items
