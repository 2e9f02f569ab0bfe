use Rattle.hpr_graph.proofs.Indexed.{added_last}
use Rattle.hpr_graph.proofs.draft.insert_new.Goals as goal

pub returns-clause-ok : goal.returns-clause-ok
returns-clause-ok c = added_last c.args.vertices.now.keys _ c.args.vertex c.requires c.in_ok-insert.ensures.keys
