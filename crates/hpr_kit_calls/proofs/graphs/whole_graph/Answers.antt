use Rattle.std.proofs.lemmas.Result.{IfOk-weaker}
use Rattle.hpr_graph.specs.Graphs.{Same}
use Rattle.hpr_graph.specs.Numbered.{graph_in}
use Rattle.hpr_graph.specs.ProgramGraph.{graph_of}
use Rattle.hpr_graph.specs.Whole.{IsWhole}
use Rattle.hpr_closure.proofs.ProgramWhole.{program_whole}
use Rattle.hpr_closure.proofs.WholeSlices.{whole_same}
use Rattle.hpr_kit_calls.proofs.graphs.whole_graph.Goals as goal

pub returns : goal.returns
returns c =
    let t = c.args.program.now in
    IfOk-weaker c.graph_of.result (λ g. Same (graph_in g) (graph_of t)) (λ g. IsWhole (graph_in g))
    (λ g same. whole_same (graph_in g) (graph_of t) same (program_whole t c.body-body.ensures.program)) c.graph_of.ensures.graph
