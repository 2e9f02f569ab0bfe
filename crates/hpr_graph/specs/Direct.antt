-- Directly affected points: where a variant's graph differs from base's at the vertex itself. The 1989 paper
-- compares slices.
--
-- AreAlikeInto g h v          == both graphs have the same control and flow edges into v
-- AreAlikeFor g h v           == both have the same order edges whose shared use is v
-- IsAlike g h v               == h has the vertex v too, and they are alike into it and for it
-- IsDirectlyAffected g base v == v is a vertex of the variant's graph g that base's graph lacks, or into
--                                which it has other control or flow edges, or for which it has other order
--                                edges
use Rattle.std.specs.Prelude.{◌≡◌, ◌↔◌}
use Rattle.hpr_graph.specs.declared.vertex.Vertex.{Vertex}
use Rattle.hpr_graph.specs.declared.edge.Kind.TheVariants.{Order}
use Rattle.hpr_graph.specs.declared.edge.Edge.{Edge}
use Rattle.hpr_graph.specs.Graphs.{Graph}
use Rattle.hpr_graph.specs.Slices.{Leads}

abbrev pub AreAlikeInto : Graph → Graph → Vertex → Type 0
AreAlikeInto g h v = (e : Edge) → e.to ≡ v → Leads e.kind → g.edge e ↔ h.edge e

abbrev pub AreAlikeFor : Graph → Graph → Vertex → Type 0
AreAlikeFor g h v = (e : Edge) → e.kind ≡ Order v → g.edge e ↔ h.edge e

abbrev pub IsAlike : Graph → Graph → Vertex → Type 0
IsAlike g h v = h.vertex v × AreAlikeInto g h v × AreAlikeFor g h v

abbrev pub IsDirectlyAffected : Graph → Graph → Vertex → Type 0
IsDirectlyAffected g base v = g.vertex v × ¬ IsAlike g base v
