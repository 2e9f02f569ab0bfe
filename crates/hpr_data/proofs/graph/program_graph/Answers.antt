use Rattle.hpr_data.proofs.GraphLemmas.{graph_of_text}
use Rattle.hpr_data.proofs.graph.program_graph.Goals as goal

pub returns : goal.returns
returns c = graph_of_text c.args.file.now c.args.program.now c.in_ok-graph.graph c.in_ok-graph.ensures.0 c.in_ok-graph.ensures.1
