use Rattle.hpr_graph.proofs.Indexed.{found_at, stranger}
use Rattle.hpr_graph.proofs.draft.number_in.Goals as goal

pub returns-clause-found : goal.returns-clause-found
returns-clause-found c = found_at c.args.vertices.now.keys c.args.vertex.now c.get_index_of.result c.get_index_of.ensures.index

pub returns-clause-stranger : goal.returns-clause-stranger
returns-clause-stranger c = stranger c.args.vertices.now.keys c.args.vertex.now c.get_index_of.result c.get_index_of.ensures.found
