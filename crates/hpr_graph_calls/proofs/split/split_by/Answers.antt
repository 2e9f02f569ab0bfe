use Rattle.std.proofs.Common.{List, Contains, refl, sym, subst}
use Rattle.hpr_graph.specs.declared.vertex.Vertex.{Vertex}
use Rattle.hpr_graph.specs.declared.vertex.Vertex.TheVariants.{Part}
use Rattle.hpr_graph_calls.proofs.split.split_by.Goals as goal

pub split-requires-clause-ranked : goal.split-requires-clause-ranked
split-requires-clause-ranked c = λ t d h.
    subst (λ (vs : List Vertex). Contains vs (Part t d)) (sym c.vertices-rank.ensures.vertices)
    (c.are_listed.ensures c.if-not-are_listed.false (Part t d) (subst (λ (vs : List Vertex). Contains vs (Part t d)) (sym c.vertices.ensures.vertices) h) (t, d, refl))

pub split-requires-clause-serials : goal.split-requires-clause-serials
split-requires-clause-serials c = λ t d h. c.are_issued.ensures c.if-not-are_issued.false (Part t d) h t d refl
