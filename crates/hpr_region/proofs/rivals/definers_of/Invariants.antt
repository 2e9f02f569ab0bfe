use Rattle.hpr_region.proofs.Definers.{AreDefinersBelow}
use Rattle.hpr_region.proofs.rivals.definers_of.Given as goal

abbrev pub invariant-loop-item : goal.invariant-loop-item
invariant-loop-item l = AreDefinersBelow l.flows l.item l.rows.items
