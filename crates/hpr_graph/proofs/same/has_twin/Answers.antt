use Rattle.hpr_graph.proofs.Twinned.{twin_found, no_twin}
use Rattle.hpr_graph.proofs.same.has_twin.Goals as goal

pub returns-in-Some : goal.returns-in-Some
returns-in-Some c = twin_found c.args.vertices.now c.args.other.now.vertices c.requires.once c.args.link c.in-Some.there c.args.row.now c.has_sorted.result c.in-Some.ensures c.has_sorted.ensures

pub returns-in-None : goal.returns-in-None
returns-in-None c = no_twin c.args.vertices.now c.args.other.now.vertices c.requires.once c.args.link c.args.row.now c.in-None.ensures
