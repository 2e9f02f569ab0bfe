use Rattle.hpr_many.proofs.InLimit.{AreMade}
use Rattle.hpr_many.proofs.programs.variant_graphs.Given as goal

abbrev pub invariant-loop-at : goal.invariant-loop-at
invariant-loop-at l = AreMade l.variants l.at l.graphs.items
