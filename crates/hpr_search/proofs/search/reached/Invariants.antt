use Rattle.std.proofs.Common.{◌-◌}
use Rattle.hpr_search.proofs.Turns.{Searching}
use Rattle.hpr_search.proofs.search.reached.Given as goal

abbrev pub invariant-loop-at : goal.invariant-loop-at
invariant-loop-at g l = Searching (g.G.Digraph.steps l.graph) l.starts (g.G.Digraph.points l.graph) l.at l.marks.items l.order.items

abbrev pub decreases-loop-at : goal.decreases-loop-at
decreases-loop-at g l = g.G.Digraph.points l.graph - l.at
