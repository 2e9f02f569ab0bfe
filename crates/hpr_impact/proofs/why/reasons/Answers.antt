use Rattle.std.proofs.lemmas.Result.{IfOk-weaker}
use Rattle.hpr_graph.specs.Numbered.{graph_in}
use Rattle.hpr_closure.proofs.WholeSlices.{whole_same}
use Rattle.hpr_impact.proofs.Beside.{reasons_same}
use Rattle.hpr_impact.proofs.why.reasons.Goals as goal

pub ordered_reasons-requires-clause-graph : goal.ordered_reasons-requires-clause-graph
ordered_reasons-requires-clause-graph c = whole_same (graph_in c.in_ok-graph.graph) (graph_in c.args.variant.now) (c.in_ok-graph.ensures).same c.requires.variant

pub returns : goal.returns
returns c =
    IfOk-weaker c.ordered_reasons.result _ _ (λ rs are. reasons_same (graph_in c.in_ok-graph.graph) (graph_in c.args.variant.now) (graph_in c.args.base.now) rs.items (c.in_ok-graph.ensures).same are) c.ordered_reasons.ensures
