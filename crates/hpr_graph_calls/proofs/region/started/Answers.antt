use Rattle.std.proofs.Common.{List, Contains, sym, subst}
use Rattle.hpr_graph.specs.declared.vertex.Vertex.{Vertex}
use Rattle.hpr_graph.specs.declared.vertex.Vertex.TheVariants.{Part}
use Rattle.hpr_graph.specs.Graphs.{IsOnce}
use Rattle.hpr_graph_calls.proofs.region.started.Goals as goal

pub start-requires-clause-rank : goal.start-requires-clause-rank
start-requires-clause-rank c = record {
  all = λ t d h. subst (λ (vs : List Vertex). Contains vs (Part t d)) (sym c.vertices-rank.ensures.vertices) h;
  once = subst (λ (vs : List Vertex). IsOnce vs) (sym c.vertices-rank.ensures.vertices) c.vertices-rank.ensures.numbered.once;
}
