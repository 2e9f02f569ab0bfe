-- The text of the conflicts of an integration, of two variants and of any number.
--
-- side_word s             == the letter of one of two variants
-- shown_text word v e     == a conflict, by the word for its variant, its point and the edge that shows it
-- conflict_text c         == a conflict of one of two variants
-- conflicts_text cs       == how many conflicts there are, and a line for each, as they are listed
-- variant_word n          == the word for the variant with the number n
-- many_conflict_text c    == a conflict of one of many variants
-- many_conflicts_text cs  == how many of these there are, and a line for each, as they are listed
use Rattle.std.specs.Prelude.{ℕ, List, ◌++◌, length, map, codes}
use Rattle.std.specs.Fmt.{decimal}
use Rattle.hpr_graph.specs.declared.conflict.Conflict.{Conflict}
use Rattle.hpr_graph.specs.declared.conflict.ManyConflict.{ManyConflict}
use Rattle.hpr_graph.specs.declared.conflict.Side.{Side}
use Rattle.hpr_graph.specs.declared.conflict.Side.TheVariants.{A, B}
use Rattle.hpr_graph.specs.declared.edge.Edge.{Edge}
use Rattle.hpr_graph.specs.declared.vertex.Vertex.{Vertex}
use Rattle.hpr_report.specs.GraphTexts.{vertex_text, edge_text, on_lines}

abbrev pub side_word : Side → List ℕ
side_word A = codes "A"
side_word B = codes "B"

abbrev pub shown_text : List ℕ → Vertex → Edge → List ℕ
shown_text word point edge = word ++ codes " " ++ vertex_text point ++ codes ": " ++ edge_text edge

abbrev pub conflict_text : Conflict → List ℕ
conflict_text c = shown_text (side_word c.side) c.point c.edge

abbrev pub conflicts_text : List Conflict → List ℕ
conflicts_text cs = codes "interference " ++ decimal (length cs) ++ codes "\n" ++ on_lines (map conflict_text cs)

abbrev pub variant_word : ℕ → List ℕ
variant_word n = codes "V" ++ decimal n

abbrev pub many_conflict_text : ManyConflict → List ℕ
many_conflict_text c = shown_text (variant_word c.variant) c.point c.edge

abbrev pub many_conflicts_text : List ManyConflict → List ℕ
many_conflicts_text cs = codes "interference " ++ decimal (length cs) ++ codes "\n" ++ on_lines (map many_conflict_text cs)
