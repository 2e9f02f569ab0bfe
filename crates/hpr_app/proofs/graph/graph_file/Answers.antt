use Rattle.hpr_decisions.specs.GraphFile.{Graphed}
use Rattle.hpr_inputs.proofs.ReadLemmas.{past_last_file}
use Rattle.hpr_decisions.proofs.KindLemmas.{in_kind, graph_suits}
use Rattle.hpr_words.specs.Request.{graph}
use Rattle.hpr_app.proofs.graph.graph_file.Goals as goal

pub returns-clause-answers : goal.returns-clause-answers
returns-clause-answers g c =
    let name = c.args.file.now in
    past_last_file (g.S.Shelf.files c.args.shelf.now) _ _ _ name (λ p r. Graphed name p c.args.json r) c.in_ok-program.program c.show_graph.result
    c.in_ok-program.ensures.reads.0 c.in_ok-program.ensures.reads.1 c.show_graph.ensures

pub returns-clause-kind : goal.returns-clause-kind
returns-clause-kind g c =
    let file = c.args.file.now in
    let p = c.in_ok-program.program in
    in_kind (graph file c.args.json) (Graphed file p c.args.json) (graph_suits file p c.args.json) c.show_graph.result c.show_graph.ensures
