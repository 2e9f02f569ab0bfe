use Rattle.hpr_graph.specs.Numbered.{graph_in}
use Rattle.hpr_any.proofs.Answered.{left}
use Rattle.hpr_any.proofs.left.prune.Goals as goal

pub returns-clause-does : goal.returns-clause-does
returns-clause-does g c = left _ _ c.args.program.now (graph_in c.args.slice.now) c.finals-program.ensures.program c.prune.result c.prune.ensures.pruned
