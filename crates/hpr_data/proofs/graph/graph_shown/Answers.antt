use Rattle.hpr_io.specs.Files.{files_in}
use Rattle.hpr_syntax.specs.Tree.{Tree}
use Rattle.hpr_data.specs.Findings.{Finding, IsGraphed, OnEdges}
use Rattle.hpr_data.proofs.TextLemmas.{past_text}
use Rattle.hpr_data.proofs.graph.graph_shown.Goals as goal

pub returns : goal.returns
returns c =
    let file = c.args.file.now in
    past_text (files_in c.args.files.now) file (λ (p : Tree) (f : Finding). OnEdges file p (IsGraphed p f) f) c.in_ok-program.program c.program_graph.result c.in_ok-program.ensures c.program_graph.ensures
