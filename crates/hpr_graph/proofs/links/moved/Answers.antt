use Rattle.std.proofs.Common.{rules}
use Rattle.hpr_graph.proofs.links.moved.Goals as goal

pub returns : goal.returns
returns c = search rules
