-- Parts among vertices, and programs with a graph.
--
-- IsPart v == v is a part
-- Fits g p == the graph of p is g
use Rattle.std.specs.Prelude.{◌≡◌}
use Rattle.hpr_terms.specs.declared.tag.Tag.{Tag}
use Rattle.hpr_syntax.specs.declared.rows.Content.{Content}
use Rattle.hpr_syntax.specs.Tree.{Tree}
use Rattle.hpr_graph.specs.declared.vertex.Vertex.{Vertex}
use Rattle.hpr_graph.specs.declared.vertex.Vertex.TheVariants.{Part}
use Rattle.hpr_graph.specs.Graphs.{Graph, Same}
use Rattle.hpr_graph.specs.ProgramGraph.{graph_of}

abbrev pub IsPart : Vertex → Type 0
IsPart v = (t : Tag) × (c : Content) × (v ≡ Part t c)

abbrev pub Fits : Graph → Tree → Type 0
Fits g p = Same (graph_of p) g
