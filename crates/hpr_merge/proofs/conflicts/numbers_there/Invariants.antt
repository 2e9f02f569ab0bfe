use Rattle.hpr_graph.specs.Numbered.{IsOneOf}
use Rattle.hpr_affected.proofs.PointLists.{AreNumbersBefore}
use Rattle.hpr_merge.proofs.conflicts.numbers_there.Given as goal

abbrev pub invariant-loop-at : goal.invariant-loop-at
invariant-loop-at l = AreNumbersBefore l.other (IsOneOf l.graph l.numbers) l.there.items l.at
