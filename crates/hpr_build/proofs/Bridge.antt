-- The graph of a program by numbers is the graph of the program.
use Rattle.std.proofs.Common.{◌≡◌, ℕ, ◌≤◌, ◌↔◌, inl, inr, List, Contains, sym, subst}
use Rattle.hpr_syntax.specs.Initial.{IsInitial}
use Rattle.hpr_syntax.specs.Shape.{IsProgram}
use Rattle.hpr_syntax.specs.Tree.{Tree}
use Rattle.hpr_graph.specs.declared.vertex.Vertex.{Vertex}
use Rattle.hpr_graph.specs.declared.edge.Kind.{Kind}
use Rattle.hpr_graph.specs.declared.edge.Kind.TheVariants.{Control, Independent, Carried, Order}
use Rattle.hpr_graph.specs.declared.edge.Edge.{Edge}
use Rattle.hpr_graph.specs.declared.link.Link.{Link}
use Rattle.hpr_graph.specs.Graphs.{IsOnce, Same, HasMoreEdges}
use Rattle.hpr_graph.specs.Numbered.{Numbered, IsNumbered, HasEdge, HasLink, IsEdgeAt, graph_in, link_count}
use Rattle.hpr_graph.specs.ProgramGraph.{IsVertexOf, IsEdgeBy, IsEdgeOf, graph_of}
use Rattle.hpr_graph.proofs.EdgeList.{edge_one, edges_counted}
use Rattle.hpr_graph.proofs.Laws as laws
use Rattle.hpr_build.specs.Links.{vertices_of, IsLinkOf, HasMoreLinks}
use Rattle.hpr_build.proofs.BridgeVertices as vertices
use Rattle.hpr_build.proofs.BridgeControl.{control_edge, control_link}
use Rattle.hpr_build.proofs.BridgeFlow.{flow_edge, independent_link, carried_link}
use Rattle.hpr_build.proofs.BridgeOrder.{order_edge, order_link}

-- a graph has no more edges than the program's graph, where it is that
pub no_more_edges : (tree : Tree) (n : ℕ) (g : Numbered) → IsNumbered g → Same (graph_in g) (graph_of tree) → link_count g ≤ n → ¬ HasMoreEdges (graph_of tree) n
no_more_edges tree n g numbered same few = laws.no_more_edges (graph_in g) (graph_of tree) (link_count g) n (λ e. (same.1 e).1) (edges_counted g numbered) few

module _ (tree : Tree) (inits : List (List ℕ)) (prog : IsProgram tree) (names : (x : List ℕ) → Contains inits x ↔ IsInitial tree x) where
  abbrev Vs : List Vertex
  Vs = vertices_of tree inits

  -- no vertex stands twice
  pub once_vertices : IsOnce inits → IsOnce (vertices_of tree inits)
  once_vertices once = vertices.once_vertices tree inits prog once

  pub vertex_of : (v : Vertex) → Contains (vertices_of tree inits) v ↔ IsVertexOf tree v
  vertex_of v = vertices.vertex_of tree inits names v

  abbrev LinkEdge : ℕ → Link → Type 0
  LinkEdge to l = (e : Edge) × IsEdgeAt Vs to l e × IsEdgeOf tree e

  link_edge : (to : ℕ) (l : Link) → IsLinkOf tree inits to l → LinkEdge to l
  link_edge to l (inl h) = control_edge tree inits names to l h
  link_edge to l (inr (inl h)) = flow_edge tree inits prog to l h
  link_edge to l (inr (inr h)) = order_edge tree inits prog to l h

  -- each link is an edge
  pub link_stands : (to : ℕ) (l : Link) → IsLinkOf tree inits to l → (e : Edge) × IsEdgeAt (vertices_of tree inits) to l e
  link_stands to l h = let k = link_edge to l h in (k.0, k.1)

  abbrev EdgeLink : Edge → Type 0
  EdgeLink e = (to : ℕ) × (l : Link) × IsLinkOf tree inits to l × IsEdgeAt Vs to l e

  edge_link : (k : Kind) (from to : Vertex) → IsEdgeBy tree k from to → EdgeLink (record { to = to; from = from; kind = k })
  edge_link (Control label) from to h = let (n, l, is, at) = control_link tree inits prog names label from to h in (n, l, inl is, at)
  edge_link (Independent x) from to h = let (n, l, is, at) = independent_link tree inits prog names x from to h in (n, l, inr (inl is), at)
  edge_link (Carried x w) from to h = let (n, l, is, at) = carried_link tree inits prog names x w from to h in (n, l, inr (inl is), at)
  edge_link (Order w) from to h = let (n, l, is, at) = order_link tree inits prog w from to h in (n, l, inr (inr is), at)

  -- the links are the edges of the program
  pub edge_of : (e : Edge) → ((to : ℕ) × (l : Link) × IsLinkOf tree inits to l × IsEdgeAt (vertices_of tree inits) to l e) ↔ IsEdgeOf tree e
  edge_of e = (
    (λ (to, l, is, at).
        let (f, stands, edge) = link_edge to l is in
        subst (IsEdgeOf tree) (edge_one Vs to l f e stands at) edge),
    (λ h. edge_link e.kind e.from e.to h),
  )

  -- a graph with these vertices and some of these links is within the program's graph
  edges_within : (g : Numbered) → g.vertices ≡ vertices_of tree inits → ((to : ℕ) (l : Link) → HasLink g to l → IsLinkOf tree inits to l) → (e : Edge) → HasEdge g e → IsEdgeOf tree e
  edges_within g is links e (to, l, has, at) = (edge_of e).0 (to, l, links to l has, subst (λ (vs : List Vertex). IsEdgeAt vs to l e) is at)

  edges_all : (g : Numbered) → g.vertices ≡ vertices_of tree inits → ((to : ℕ) (l : Link) → IsLinkOf tree inits to l → HasLink g to l) → (e : Edge) → IsEdgeOf tree e → HasEdge g e
  edges_all g is links e h =
      let (to, l, link, at) = (edge_of e).1 h in
      (to, l, links to l link, subst (λ (vs : List Vertex). IsEdgeAt vs to l e) (sym is) at)

  -- a graph with these vertices and these links is the program's graph
  pub same_graph : (g : Numbered) → g.vertices ≡ vertices_of tree inits → ((to : ℕ) (l : Link) → HasLink g to l ↔ IsLinkOf tree inits to l) → Same (graph_in g) (graph_of tree)
  same_graph g is links = (
    λ v. subst (λ (vs : List Vertex). Contains vs v ↔ IsVertexOf tree v) (sym is) (vertex_of v),
    λ e. (edges_within g is (λ to l. (links to l).0) e, edges_all g is (λ to l. (links to l).1) e),
  )

  -- more links are more edges
  pub more_edges : (n : ℕ) → HasMoreLinks tree inits n → HasMoreEdges (graph_of tree) n
  more_edges n h = laws.more_edges (graph_in h.g) (graph_of tree) (link_count h.g) n (edges_within h.g h.vertices h.links) (edges_counted h.g h.numbered) h.more
