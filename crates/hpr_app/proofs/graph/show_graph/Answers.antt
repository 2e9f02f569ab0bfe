use Rattle.hpr_graph.specs.Numbered.{graph_in}
use Rattle.hpr_decisions.proofs.GraphLemmas.{decided}
use Rattle.hpr_app.proofs.graph.show_graph.Goals as goal

pub returns : goal.returns
returns c =
    decided c.args.file.now c.args.program.now c.args.json (graph_in c.in_ok-graph.graph) c.in_ok-text.text.items
    c.in_ok-graph.ensures.0 c.in_ok-graph.ensures.1 c.in_ok-text.ensures
