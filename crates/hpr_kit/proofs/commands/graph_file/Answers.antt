use Rattle.hprkit_words.specs.Ask.{graph}
use Rattle.std.proofs.Common.{Some}
use Rattle.hpr_located.specs.Sources.{standing_of}
use Rattle.hpr_kit.specs.Comes.{Names}
use Rattle.hpr_kit.specs.Graphs.{IsGraphTold, OnGraph}
use Rattle.hpr_kit.proofs.GraphLemmas.{graph_said}
use Rattle.hpr_kit.proofs.LoadLemmas.{of_source}
use Rattle.hpr_kit.proofs.commands.graph_file.Goals as goal

pub returns-clause-halts : goal.returns-clause-halts
returns-clause-halts g c =
    let file = c.args.file.now in
    let form = c.args.form in
    of_source (g.S.Shelf.files c.args.shelf.now) (Names (Some (graph file form))) file _ c.in_ok-program.program (standing_of c.in_ok-program.source)
    (λ bytes p s a. OnGraph file p (λ h. IsGraphTold form p s h a) a) _ _ (λ a told. (graph_said file _ a form _ told).taken) c.in_ok-program.ensures.loads.0
    c.in_ok-program.ensures.loads.1 c.graph_reply.result c.graph_reply.ensures
