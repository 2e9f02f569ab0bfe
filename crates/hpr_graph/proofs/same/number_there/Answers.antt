use Rattle.std.proofs.Common.{refl}
use Rattle.hpr_graph.proofs.Lists.{read_at}
use Rattle.hpr_graph.proofs.Twinned.{number_found}
use Rattle.hpr_graph.proofs.same.number_there.Goals as goal

pub returns : goal.returns
returns c =
    number_found c.args.vertices.now c.args.other.now.vertices c.requires.once c.args.at c.index-vertices-at.result c.number_of.result
    (read_at _ _ c.args.at c.index-vertices-at.result refl c.requires.at c.index-vertices-at.is) c.number_of.ensures.found c.number_of.ensures.stranger
