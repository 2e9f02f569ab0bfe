use Rattle.std.proofs.Common.{List, map, ap, ap₂, codes, ◌∙◌}
use Rattle.serde_json.specs.Data.{Data, string, array, object, member, no_members}
use Rattle.serde_json.specs.View.{items_of}
use Rattle.serde_json.specs.Written.{has_float}
use Rattle.hpr_graph.specs.InOrder.{edges_of}
use Rattle.hpr_json.specs.Vertices.{vertex_data}
use Rattle.hpr_json.proofs.Whole.{graph_whole}
use Rattle.hpr_json.proofs.graphs.ordered_value.Goals as goal

pub returns-clause-whole : goal.returns-clause-whole
returns-clause-whole c =
    let g = c.args.graph.now in
    let vertices = c.in_ok-vertices.ensures ∙ ap (map vertex_data) c.vertices.ensures.vertices in
    let listed = ap₂
    (λ (es vs : List Data). object (member (codes "edges") (array (items_of es)) (member (codes "status") (string (codes "done")) (member (codes "vertices") (array (items_of vs)) no_members))))
    c.in_ok-edges.ensures vertices in
    ap has_float (c.in_ok-listed_graph.ensures ∙ listed) ∙ graph_whole g.vertices (edges_of g)
