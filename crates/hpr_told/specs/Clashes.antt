-- The first clash of a search, as JSON. Members stand in ascending order of their keys.
--
-- numbered_data ss g n == the vertex of g with this number
-- clash_object vs v    == the part v, which clashes, and the parts vs, behind which it stands
-- clash_data ss g f    == the same of the clash f, whose numbers are those of vertices of g
-- with_clash ss g o d  == the object d with the member `clash`, or as it is where there is no clash
-- IsWithin g f         == the numbers of the clash are those of vertices of g
-- IsClashWithin g o    == so are those of the clash, where there is one
-- HasClashInGraph o    == so are those of an outcome's clash, in the graph that was searched for
use Rattle.std.specs.Prelude.{ℕ, ◌<◌, Option, None, Some, List, All, map, length, codes}
use Rattle.serde_json.specs.Data.{Data, array, object, member, no_members}
use Rattle.serde_json.specs.View.{items_of}
use Rattle.hpr_graph.specs.InOrder.{vertex_at}
use Rattle.hpr_graph.specs.Numbered.{Numbered}
use Rattle.hpr_rebuild.specs.declared.clash.FirstClash.{FirstClash}
use Rattle.hpr_located.specs.Shown.{located_data, with_member}
use Rattle.hpr_located.specs.Sources.{Standing}
use Rattle.hpr_outcome.specs.declared.outcome.Outcome.{Outcome}
use Rattle.hpr_outcome.specs.declared.outcome.Outcome.TheVariants.{Interference, Merged, NoProgram, Spent}

abbrev pub numbered_data : List Standing → Numbered → ℕ → Data
numbered_data ss g n = located_data ss (vertex_at g.vertices n)

abbrev pub clash_object : List Data → Data → Data
clash_object behind part =
    object (member (codes "behind") (array (items_of behind)) (member (codes "part") part no_members))

abbrev pub clash_data : List Standing → Numbered → FirstClash → Data
clash_data ss g f = clash_object (map (numbered_data ss g) f.front.items) (numbered_data ss g f.part)

abbrev pub with_clash : List Standing → Numbered → Option FirstClash → Data → Data
with_clash ss g None d = d
with_clash ss g (Some f) d = with_member (codes "clash") (clash_data ss g f) d

abbrev pub IsWithin : Numbered → FirstClash → Type 0
IsWithin g f = All (λ n. n < length g.vertices) f.front.items × (f.part < length g.vertices)

abbrev pub IsClashWithin : Numbered → Option FirstClash → Type 0
IsClashWithin g None = Unit {0}
IsClashWithin g (Some f) = IsWithin g f

abbrev pub HasClashInGraph : Outcome → Type 0
HasClashInGraph (Interference cs) = Unit {0}
HasClashInGraph (Merged p s) = Unit {0}
HasClashInGraph (NoProgram s o) = IsClashWithin s.graph o
HasClashInGraph (Spent s o) = IsClashWithin s.graph o
