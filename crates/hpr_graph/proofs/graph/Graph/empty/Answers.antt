use Rattle.hpr_graph.proofs.Reordered.{no_rows_ascend}
use Rattle.hpr_graph.proofs.graph.Graph.empty.Goals as goal

pub invariant_of-result : goal.invariant_of-result
invariant_of-result c = no_rows_ascend c.empty.result c.empty.ensures.links
