use Rattle.std.proofs.Common.{List, map, subst}
use Rattle.serde_json.specs.View.{view}
use Rattle.hpr_graph.specs.declared.vertex.Vertex.{Vertex}
use Rattle.hpr_graph.specs.InOrder.{edges_of}
use Rattle.hpr_graph.proofs.InOrder.{edges_reordered}
use Rattle.hpr_located.specs.Sources.{standing_of}
use Rattle.hpr_drawn.specs.Told.{AreTold}
use Rattle.hpr_drawn.proofs.told.listed.Goals as goal

pub returns : goal.returns
returns c =
    let g = c.in_ok-graph.graph in
    let ds = map view c.in_ok-vertices.vertices.items in
    let now = c.in_ok-graph.ensures in
    record {
      vertices = g.vertices;
      edges = edges_of g;
      vertices_are = now.vertices;
      edges_are = edges_reordered c.args.graph.now g c.vertices.ensures.numbered now.same now.vertices now.rows;
      told = subst (λ (vs : List Vertex). AreTold (map standing_of c.args.sources.now) vs ds) c.vertices.ensures.vertices c.in_ok-vertices.ensures;
      edges_told = c.in_ok-edges.ensures;
    }
