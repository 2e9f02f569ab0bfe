-- The texts of a graph's vertices, made once.
--
-- AreTexts of == the texts are those of the graph's vertices, in the order of their numbers
use Rattle.std.specs.Prelude.{◌≡◌, map, string_bytes}
use Rattle.hpr_report.specs.declared.edges.VertexTexts.{VertexTexts}
use Rattle.hpr_report.specs.GraphTexts.{vertex_text}

abbrev pub AreTexts : VertexTexts → Type 0
AreTexts of = map string_bytes of.texts.items ≡ map vertex_text of.graph.now.vertices
