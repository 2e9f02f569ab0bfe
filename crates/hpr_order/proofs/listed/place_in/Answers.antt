use Rattle.hpr_graph.proofs.Indexed.{found_at, stranger}
use Rattle.hpr_order.proofs.listed.place_in.Goals as goal

pub returns-clause-found : goal.returns-clause-found
returns-clause-found c = found_at c.args.list.now.keys c.args.vertex.now c.get_index_of.result c.get_index_of.ensures.index

pub returns-clause-stranger : goal.returns-clause-stranger
returns-clause-stranger c = stranger c.args.list.now.keys c.args.vertex.now c.get_index_of.result c.get_index_of.ensures.found
