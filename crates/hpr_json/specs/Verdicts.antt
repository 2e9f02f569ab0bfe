-- The verdict of `verify` as JSON.
--
-- side_data c     == a conflict of one of two variants, A is 1 and B is 2
-- holder_word h   == the word for a graph: that of the program that is offered, or the merged one
-- verdict_data v  == the offered program has the merged graph, or what shows that it hasn't: the first
--                    conflict, or the vertex or the edge that one of the two graphs has and the other lacks
use Rattle.std.specs.Prelude.{ℕ, ◌+◌, List, codes}
use Rattle.serde_json.specs.Data.{Data, string, object, member, no_members}
use Rattle.hpr_graph.specs.declared.conflict.Conflict.{Conflict}
use Rattle.hpr_graph.specs.Conflicts.{number_of}
use Rattle.hpr_verify.specs.declared.verdict.Holder.{Holder}
use Rattle.hpr_verify.specs.declared.verdict.Holder.TheVariants.{Offered, Merged}
use Rattle.hpr_verify.specs.declared.verdict.Verdict.{Verdict}
use Rattle.hpr_verify.specs.declared.verdict.Verdict.TheVariants as verdict
use Rattle.hpr_json.specs.Vertices.{vertex_data, edge_data, conflict_data}

abbrev pub side_data : Conflict → Data
side_data c = conflict_data (number_of c.side + 1, c.point, c.edge)

abbrev pub holder_word : Holder → List ℕ
holder_word Offered = codes "offered"
holder_word Merged = codes "merged"

abbrev pub verdict_data : Verdict → Data
verdict_data verdict.Same = object (member (codes "status") (string (codes "verified")) no_members)
verdict_data (verdict.Conflict c) =
    object (member (codes "conflict") (side_data c) (member (codes "status") (string (codes "rejected")) no_members))
verdict_data (verdict.Vertex v h) =
    object
    (member (codes "holder") (string (holder_word h))
    (member (codes "status") (string (codes "rejected")) (member (codes "vertex") (vertex_data v) no_members)))
verdict_data (verdict.Edge e h) =
    object
    (member (codes "edge") (edge_data e)
    (member (codes "holder") (string (holder_word h)) (member (codes "status") (string (codes "rejected")) no_members)))
