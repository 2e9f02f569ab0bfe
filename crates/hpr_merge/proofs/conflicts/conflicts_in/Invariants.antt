use Rattle.hpr_graph.specs.Numbered.{IsOneOf, graph_in}
use Rattle.hpr_merge.proofs.ConflictLists.{AreConflictsTo}
use Rattle.hpr_merge.proofs.conflicts.conflicts_in.Given as goal

abbrev pub invariant-loop-at : goal.invariant-loop-at
invariant-loop-at l = AreConflictsTo (graph_in l.wide) (graph_in l.beside.own) (IsOneOf l.wide l.numbers) l.wide.vertices l.at l.conflicts.items
