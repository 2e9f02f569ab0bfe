-- The text of some vertices of a graph, as the affected points are reported.
--
-- ArePoints P vs           == the list has exactly the vertices that have P, in their order
-- affected_text vs         == these vertices, a line each, with their number before them
-- IsAffectedText P text    == the text is that of the vertices that have P
use Rattle.std.specs.Prelude.{◌≡◌, ℕ, ◌↔◌, List, ◌++◌, Contains, length, map, codes}
use Rattle.std.specs.Fmt.{decimal}
use Rattle.hpr_graph.specs.declared.vertex.Vertex.{Vertex}
pub use Rattle.hpr_graph.specs.Numbered.{IsOneOf}
use Rattle.hpr_graph.specs.Order.{vertex_cmp}
use Rattle.hpr_graph.specs.InOrder.{Ascends}
use Rattle.hpr_report.specs.GraphTexts.{vertex_text, on_lines}

abbrev pub ArePoints : (Vertex → Type 0) → List Vertex → Type 0
ArePoints P vs = Ascends vertex_cmp vs × ((v : Vertex) → Contains vs v ↔ P v)

abbrev pub affected_text : List Vertex → List ℕ
affected_text vs = codes "affected " ++ decimal (length vs) ++ codes "\n" ++ on_lines (map vertex_text vs)

abbrev pub IsAffectedText : (Vertex → Type 0) → List ℕ → Type 0
IsAffectedText P text = (vs : List Vertex) × ArePoints P vs × (text ≡ affected_text vs)
