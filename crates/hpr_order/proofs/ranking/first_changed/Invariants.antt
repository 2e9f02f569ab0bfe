use Rattle.hpr_order.proofs.ManyRanks.{AreBaseBelow}
use Rattle.hpr_order.proofs.ranking.first_changed.Given as goal

abbrev pub invariant-loop-variant : goal.invariant-loop-variant
invariant-loop-variant l = AreBaseBelow l.base l.variants l.variant-index
