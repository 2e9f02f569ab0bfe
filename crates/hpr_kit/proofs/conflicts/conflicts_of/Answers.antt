use Rattle.hpr_kit.proofs.ManyGraphs.{among}
use Rattle.hpr_kit.proofs.conflicts.conflicts_of.Goals as goal

pub returns : goal.returns
returns c =
    among c.args.graphs.now c.index-graphs-0.result c.index-graphs-0.is c.requires.least c.conflicts_among.result c.conflicts_among.ensures.conflicts
    c.conflicts_among.ensures.numbers
