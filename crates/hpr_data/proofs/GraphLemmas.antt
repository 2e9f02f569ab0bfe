-- The graph of a text's program.
use Rattle.std.proofs.Common.{List, refl, inr}
use Rattle.hpr_syntax.specs.Tree.{Tree}
use Rattle.hpr_graph.specs.declared.edge.Edge.{Edge}
use Rattle.hpr_graph.specs.declared.vertex.Vertex.{Vertex}
use Rattle.hpr_graph.specs.Graphs.{Graph, Same}
use Rattle.hpr_graph.specs.InOrder.{AreEdgesOf, AreVerticesOf}
use Rattle.hpr_graph.specs.Numbered.{Numbered, graph_in}
use Rattle.hpr_graph.specs.ProgramGraph.{graph_of}
use Rattle.hpr_graph.proofs.InOrder.{vertices_of_same}
use Rattle.hpr_engine.specs.Limit.{HasTooManyEdges}
use Rattle.hpr_words.specs.Request.{Text}
use Rattle.hpr_data.specs.Findings.{IsGraphed, OnEdges, graphed}

edges_of_same : (g h : Graph) (es : List Edge) → Same g h → AreEdgesOf g es → AreEdgesOf h es
edges_of_same g h es same (up, all) = (up, λ e. (λ has. (same.1 e).0 ((all e).0 has), λ is. (all e).1 ((same.1 e).1 is)))

pub graph_of_text : (file : Text) (p : Tree) (g : Numbered) → Same (graph_in g) (graph_of p) → (HasTooManyEdges p → ⊥) → (vs : List Vertex) (es : List Edge) → AreVerticesOf (graph_in g) vs
    → AreEdgesOf (graph_in g) es → OnEdges file p (IsGraphed p (graphed vs es)) (graphed vs es)
graph_of_text file p g same few vs es are edges =
    inr (few, (vs, es, vertices_of_same (graph_in g) (graph_of p) vs same are, edges_of_same (graph_in g) (graph_of p) es same edges, refl))
