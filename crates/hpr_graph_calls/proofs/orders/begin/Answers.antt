use Rattle.std.proofs.Common.{List, Contains, refl, sym, subst}
use Rattle.hpr_graph.specs.declared.vertex.Vertex.{Vertex}
use Rattle.hpr_graph.specs.declared.vertex.Vertex.TheVariants.{Part}
use Rattle.hpr_graph.specs.Graphs.{IsOnce}
use Rattle.hpr_graph_calls.proofs.orders.begin.Goals as goal

pub start-requires-clause-rank : goal.start-requires-clause-rank
start-requires-clause-rank c = record {
  all = λ t d h. subst (λ (vs : List Vertex). Contains vs (Part t d)) (sym c.vertices-rank.ensures.vertices) h;
  once = subst (λ (vs : List Vertex). IsOnce vs) (sym c.vertices-rank.ensures.vertices) c.vertices-rank.ensures.numbered.once;
}

pub start-requires-clause-issued : goal.start-requires-clause-issued
start-requires-clause-issued c = λ t d h.
    c.are_issued.ensures c.if-not-are_issued.false (Part t d)
    (subst (λ (vs : List Vertex). Contains vs (Part t d)) (sym c.vertices-rank.ensures.vertices) h) t d refl

pub returns : goal.returns
returns c = rw c.vertices-rank.ensures.vertices at c.in_ok-all.ensures.all
