-- What has vertices and edges within bounds has its texts.
use Rattle.std.proofs.Common.{ℕ, List, refl}
use Rattle.hpr_graph.specs.declared.vertex.Vertex.{Vertex}
use Rattle.hpr_graph.specs.declared.edge.Edge.{Edge}
use Rattle.hpr_graph.specs.Graphs.{Graph}
use Rattle.hpr_graph.specs.InOrder.{AreVerticesOf, AreEdgesOf}
use Rattle.hpr_graph.specs.Order.{vertex_cmp, edge_cmp}
use Rattle.hpr_graph.proofs.Bounded.{Bounded}
use Rattle.hpr_graph.proofs.EdgeOrder.{edge_tied}
use Rattle.hpr_graph.proofs.PutInOrder.{ascending}
use Rattle.hpr_graph.proofs.VertexOrder.{vertex_total, edge_total, vertex_tied}
use Rattle.hpr_report.specs.AffectedText.{IsAffectedText, affected_text}
use Rattle.hpr_report.specs.GraphJson.{IsGraphJson}
use Rattle.hpr_report.specs.GraphTexts.{IsGraphText, graph_text}

module _ (g : Graph) (vertices : Bounded g.vertex) (edges : Bounded g.edge) where
  abbrev Listed : Type 0
  Listed = (vs : List Vertex) × (es : List Edge) × AreVerticesOf g vs × AreEdgesOf g es

  listed : ¬ (¬ Listed)
  listed n =
      ascending vertex_cmp vertex_total vertex_tied g.vertex vertices (λ vs.
      ascending edge_cmp edge_total edge_tied g.edge edges (λ es.
      n (vs.0, es.0, (vs.1, vs.2), (es.1, es.2))))

  pub some_graph_text : ¬ (¬ ((text : List ℕ) × IsGraphText g text))
  some_graph_text n = listed (λ l. n (graph_text l.0 l.1, (l.0, l.1, l.2, l.3, refl)))

  pub some_graph_json : ¬ (¬ ((text : List ℕ) × IsGraphJson g text))
  some_graph_json n = listed (λ l. n (_, (l.0, l.1, l.2, l.3, refl)))

pub some_affected_text : (P : Vertex → Type 0) → Bounded P → ¬ (¬ ((text : List ℕ) × IsAffectedText P text))
some_affected_text P bounded n =
    ascending vertex_cmp vertex_total vertex_tied P bounded (λ vs. n (affected_text vs.0, (vs.0, (vs.1, vs.2), refl)))
