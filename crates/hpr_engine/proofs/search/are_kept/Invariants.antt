use Rattle.hpr_engine.specs.Kept.{AreKeptBelow}
use Rattle.hpr_engine.proofs.search.are_kept.Given as goal

abbrev pub invariant-loop-at : goal.invariant-loop-at
invariant-loop-at l = AreKeptBelow l.vertices l.keep l.at
