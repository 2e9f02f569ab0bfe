-- What comes of an integration, as JSON. Members stand in ascending order of their keys.
--
-- renamed_object v t   == a part as it was, and its new tag
-- renamed_data ss r    == the same, with where the part stands
-- with_sought ss s g d == the object d with the object g of a graph, the parts that got new tags, and the
--                         number of the tries
-- IsWithSought ss s d e == e is d with all that, and g tells the graph that was searched for
-- IsMergedTold ss p s d == d is hpr's answer that p is the program, with what was searched for
-- IsNoneTold ss s o d  == d is hpr's answer that no program has the graph, with that and with the clash
-- IsSpentTold ss s o d == d is hpr's answer that the tries are spent, with that and with the clash
-- IsOutcomeTold ss o d == d tells what comes of an integration
use Rattle.std.specs.Prelude.{◌≡◌, ℕ, Option, List, map, codes}
use Rattle.serde_json.specs.Data.{Data, string, array, object, member, no_members}
use Rattle.serde_json.specs.View.{items_of}
use Rattle.hpr_terms.specs.Texts.{tag_text}
use Rattle.hpr_terms.specs.declared.tag.Tag.{Tag}
use Rattle.hpr_syntax.specs.Print.{text}
use Rattle.hpr_syntax.specs.Tree.{Tree}
use Rattle.hpr_graph.specs.Answer.{HasParts}
use Rattle.hpr_graph.specs.Numbered.{graph_in}
use Rattle.hpr_graph.specs.declared.vertex.Vertex.{Vertex}
use Rattle.hpr_report.specs.GraphJson.{number_data}
use Rattle.hpr_json.specs.Answers.{no_program_data, program_data, spent_data}
use Rattle.hpr_located.specs.Shown.{located_data, with_member}
use Rattle.hpr_located.specs.Sources.{Standing}
use Rattle.hpr_interference.specs.Answers.{Tells}
use Rattle.hpr_drawn.specs.Told.{IsGraphObject}
use Rattle.hpr_rebuild.specs.declared.clash.FirstClash.{FirstClash}
use Rattle.hpr_outcome.specs.declared.outcome.Outcome.{Outcome}
use Rattle.hpr_outcome.specs.declared.outcome.Outcome.TheVariants.{Interference, Merged, NoProgram, Spent}
use Rattle.hpr_outcome.specs.declared.outcome.Sought.{Sought}
use Rattle.hpr_told.specs.Clashes.{with_clash}

abbrev pub renamed_object : Data → Tag → Data
renamed_object part tag =
    object (member (codes "part") part (member (codes "tag") (string (tag_text tag)) no_members))

abbrev pub renamed_data : List Standing → Vertex × Tag → Data
renamed_data ss (v, tag) = renamed_object (located_data ss v) tag

abbrev pub with_sought : List Standing → Sought → Data → Data → Data
with_sought ss s g d =
    with_member (codes "graph") g
    (with_member (codes "renamed") (array (items_of (map (renamed_data ss) s.renamed.items)))
    (with_member (codes "tries") (number_data s.tries) d))

abbrev pub IsWithSought : List Standing → Sought → Data → Data → Type 0
IsWithSought ss s d e = (g : Data) × IsGraphObject ss (graph_in s.graph) g × (e ≡ with_sought ss s g d)

abbrev pub IsMergedTold : List Standing → Tree → Sought → Data → Type 0
IsMergedTold ss p s d = IsWithSought ss s (program_data (text p)) d

abbrev pub IsNoneTold : List Standing → Sought → Option FirstClash → Data → Type 0
IsNoneTold ss s o d =
    (n : ℕ) × HasParts (graph_in s.graph) n
    × IsWithSought ss s (with_clash ss s.graph o (no_program_data n)) d

abbrev pub IsSpentTold : List Standing → Sought → Option FirstClash → Data → Type 0
IsSpentTold ss s o d = IsWithSought ss s (with_clash ss s.graph o (spent_data s.tries)) d

abbrev pub IsOutcomeTold : List Standing → Outcome → Data → Type 0
IsOutcomeTold ss (Interference cs) d = Tells ss cs.items d
IsOutcomeTold ss (Merged p s) d = IsMergedTold ss p s d
IsOutcomeTold ss (NoProgram s o) d = IsNoneTold ss s o d
IsOutcomeTold ss (Spent s o) d = IsSpentTold ss s o d
