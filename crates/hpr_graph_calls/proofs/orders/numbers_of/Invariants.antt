use Rattle.hpr_order.proofs.Preorders.{IsNumberedTo}
use Rattle.hpr_graph_calls.proofs.orders.numbers_of.Given as goal

abbrev pub invariant-loop-row : goal.invariant-loop-row
invariant-loop-row l = IsNumberedTo l.graph.vertices l.row-items l.row-index l.numbers.items
