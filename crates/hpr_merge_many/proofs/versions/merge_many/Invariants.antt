use Rattle.hpr_merge_many.proofs.ManyConflicts.{AreManyBelow}
use Rattle.hpr_merge_many.proofs.versions.merge_many.Given as goal

abbrev pub invariant-loop-at : goal.invariant-loop-at
invariant-loop-at l = AreManyBelow l.base l.variants l.at l.conflicts.items
