-- Programs and their graphs with other tags. A renaming gives for each tag a tag.
--
-- body_with f b    == the block with its tags renamed
-- tree_with f i t  == the tree with its tags renamed, and with the issued numbers i
-- vertex_with f v  == the vertex with its tag renamed, if it has one
-- kind_with f k    == the kind of edge with the tag of its loop or of its shared use renamed
-- edge_with f e    == the edge with all its tags renamed
-- graph_with f g   == what each vertex and each edge of the graph is with its tags renamed
use Rattle.std.specs.Prelude.{◌≡◌}
use Rattle.hpr_terms.specs.declared.tag.Tag.{Tag}
use Rattle.hpr_syntax.specs.Body.{Body, done, action, branch, loop}
use Rattle.hpr_syntax.specs.Issued.{Issued}
use Rattle.hpr_syntax.specs.Tree.{Tree}
use Rattle.hpr_graph.specs.declared.vertex.Vertex.{Vertex}
use Rattle.hpr_graph.specs.declared.vertex.Vertex.TheVariants.{Entry, Init, Part, Final}
use Rattle.hpr_graph.specs.declared.edge.Kind.{Kind}
use Rattle.hpr_graph.specs.declared.edge.Kind.TheVariants.{Control, Independent, Carried, Order}
use Rattle.hpr_graph.specs.declared.edge.Edge.{Edge}
use Rattle.hpr_graph.specs.Graphs.{Graph}

abbrev pub body_with : (Tag → Tag) → Body → Body
body_with f done = done
body_with f (action t d rest) = action (f t) d (body_with f rest)
body_with f (branch t e a b rest) = branch (f t) e (body_with f a) (body_with f b) (body_with f rest)
body_with f (loop t e b rest) = loop (f t) e (body_with f b) (body_with f rest)

abbrev pub tree_with : (Tag → Tag) → Issued → Tree → Tree
tree_with f issued t = record { issued = issued; body = body_with f t.body; finals = t.finals }

abbrev pub vertex_with : (Tag → Tag) → Vertex → Vertex
vertex_with f Entry = Entry
vertex_with f (Init x) = Init x
vertex_with f (Part t c) = Part (f t) c
vertex_with f (Final x) = Final x

abbrev pub kind_with : (Tag → Tag) → Kind → Kind
kind_with f (Control label) = Control label
kind_with f (Independent x) = Independent x
kind_with f (Carried x w) = Carried x (vertex_with f w)
kind_with f (Order u) = Order (vertex_with f u)

abbrev pub edge_with : (Tag → Tag) → Edge → Edge
edge_with f e = record { to = vertex_with f e.to; from = vertex_with f e.from; kind = kind_with f e.kind }

abbrev pub graph_with : (Tag → Tag) → Graph → Graph
graph_with f g = record {
  vertex = λ w. (v : Vertex) × g.vertex v × (vertex_with f v ≡ w);
  edge = λ d. (e : Edge) × g.edge e × (edge_with f e ≡ d);
}
