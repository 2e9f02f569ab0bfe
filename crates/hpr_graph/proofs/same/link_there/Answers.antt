use Rattle.std.proofs.Common.{rules}
use Rattle.hpr_graph.proofs.same.link_there.Goals as goal

pub returns : goal.returns
returns c = search rules
