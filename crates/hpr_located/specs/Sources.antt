-- Sources: files with a program, and where vertices stand in them. A vertex stands where a part has its tag and
-- its content; the vertices that are no parts stand nowhere.
--
-- Standing          == a file: its name, and where a vertex stands in its text, if it does
-- part_vertex row   == the vertex of a part
-- parts_at p ls     == the vertices of the program's parts, in preorder, each with one of these places in order
-- standing f p ls   == the file f, whose program p has its parts at these places: a vertex stands where the
--                      first such part does
-- standing_of s     == the file that a source is
-- Spot              == the name of a file, and where something stands in its text
-- spot_of ss v      == where v stands in the first of the files in which it stands, if it stands in one
use Rattle.std.specs.Prelude.{ℕ, List, [], ◌∷◌, map, zip, None, Option, Some, string_bytes}
use Rattle.std.specs.BTreeMap.{is_at}
use Rattle.std.specs.Map.{lookup}
use Rattle.hpr_syntax.specs.declared.rows.Row.{Row}
use Rattle.hpr_syntax.specs.Rows.{rows_of}
use Rattle.hpr_syntax.specs.Tree.{Tree}
use Rattle.hpr_graph.specs.declared.vertex.Vertex.{Vertex}
use Rattle.hpr_graph.specs.declared.vertex.Vertex.TheVariants.{Part}
use Rattle.hpr_graph.specs.Order.{vertex_cmp}
use Rattle.hpr_located.specs.declared.located.Located.{Located}
use Rattle.hpr_located.specs.declared.source.Source.{Source}

pub record Standing : Type 0 where
  pub file : List ℕ
  pub place : Vertex → Option Located

abbrev pub part_vertex : Row → Vertex
part_vertex row = Part row.tag row.content

abbrev pub parts_at : Tree → List Located → List (Vertex × Located)
parts_at program ls = zip (map part_vertex (rows_of None 0 program.body)) ls

abbrev pub standing : List ℕ → Tree → List Located → Standing
standing file program ls = record { file = file; place = λ v. lookup (is_at (vertex_cmp v)) (parts_at program ls) }

abbrev pub standing_of : Source → Standing
standing_of s = record { file = string_bytes s.file; place = λ v. lookup (is_at (vertex_cmp v)) s.places.entries }

abbrev pub Spot : Type 0
Spot = List ℕ × Located

abbrev pub spot_in : List ℕ → Option Located → Option Spot → Option Spot
spot_in file None others = others
spot_in file (Some l) others = Some (file, l)

abbrev pub spot_of : List Standing → Vertex → Option Spot
spot_of [] v = None
spot_of (s ∷ ss) v = spot_in s.file (s.place v) (spot_of ss v)
