use Rattle.std.proofs.Common.{subst, sym}
use Rattle.hpr_graph.specs.Numbered.{Numbered, graph_in}
use Rattle.hpr_graph.specs.Whole.{IsWhole}
use Rattle.hpr_impact.proofs.Beside.{points_beside}
use Rattle.hpr_impact.proofs.why.points_beside.Goals as goal

pub affected-requires-clause-graph : goal.affected-requires-clause-graph
affected-requires-clause-graph c = subst (λ (g : Numbered). IsWhole (graph_in g)) (sym c.in_ok-comparison.ensures.graph) c.requires.graph

pub affected-requires-clause-other : goal.affected-requires-clause-other
affected-requires-clause-other c = subst (λ (g : Numbered). IsWhole (graph_in g)) (sym c.in_ok-comparison.ensures.other) c.requires.base

pub returns : goal.returns
returns c =
    points_beside c.args.graph.now c.args.base.now c.in_ok-comparison.comparison c.in_ok-direct.direct.items c.in_ok-points.points.items c.in_ok-comparison.ensures.graph c.in_ok-comparison.ensures.other c.vertices-vertices.ensures.numbered
    c.vertices-others.ensures.numbered c.requires.graph c.requires.base c.in_ok-direct.ensures c.in_ok-points.ensures
