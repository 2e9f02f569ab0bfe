use Rattle.std.proofs.Common.{List, Contains, refl, sym, subst}
use Rattle.hpr_graph.specs.declared.vertex.Vertex.{Vertex}
use Rattle.hpr_graph.specs.declared.vertex.Vertex.TheVariants.{Part}
use Rattle.hpr_graph_calls.proofs.tries.clash_in.Goals as goal

pub first_clash-requires-clause-issued : goal.first_clash-requires-clause-issued
first_clash-requires-clause-issued c = λ t d h.
    c.are_issued.ensures c.if-are_issued.true (Part t d)
    (subst (λ (vs : List Vertex). Contains vs (Part t d)) (sym c.vertices.ensures.vertices) h) t d refl
