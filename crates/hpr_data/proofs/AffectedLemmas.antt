-- The affected points of two texts' programs.
use Rattle.std.proofs.Common.{ℕ, ◌↔◌, List, refl, inr}
use Rattle.hpr_terms.proofs.Facts.{place_of}
use Rattle.hpr_syntax.specs.Tree.{Tree}
use Rattle.hpr_graph.specs.declared.vertex.Vertex.{Vertex}
use Rattle.hpr_graph.specs.Graphs.{Same}
use Rattle.hpr_graph.specs.Numbered.{IsOneOf, Numbered, graph_in}
use Rattle.hpr_graph.specs.Points.{IsAffected}
use Rattle.hpr_graph.specs.ProgramGraph.{graph_of}
use Rattle.hpr_graph.proofs.Laws.{affected_same, same_turned}
use Rattle.hpr_affected.specs.Numbers.{AreNumbersOf}
use Rattle.hpr_engine.specs.Limit.{HasTooManyEdges}
use Rattle.hpr_report.specs.AffectedText.{ArePoints}
use Rattle.hpr_words.specs.Request.{Text}
use Rattle.hpr_data.specs.Findings.{AffectedBetween, affects}

-- `numbers` are those of the affected points of the graph h beside g
module _ (g h : Numbered) (numbers : List ℕ) (exact : AreNumbersOf h (IsAffected (graph_in h) (graph_in g)) numbers) where
  numbered : (v : Vertex) → IsOneOf h numbers v ↔ IsAffected (graph_in h) (graph_in g) v
  numbered v = (
    λ (at, one, is). (exact.exact at v is).0 one,
    λ k. (let (at, is) = place_of h.vertices v k.0 in (at, (exact.exact at v is).1 k, is)),
  )

  -- and the graphs are those of programs
  module _ (p q : Tree) (base_same : Same (graph_in g) (graph_of p)) (a_same : Same (graph_in h) (graph_of q)) where
    of_programs : (v : Vertex) → IsOneOf h numbers v ↔ IsAffected (graph_of q) (graph_of p) v
    of_programs v = (
      λ one. affected_same (graph_in h) (graph_of q) (graph_in g) (graph_of p) a_same base_same v ((numbered v).0 one),
      λ is. (numbered v).1
          (affected_same (graph_of q) (graph_in h) (graph_of p) (graph_in g) (same_turned (graph_in h) (graph_of q) a_same)
          (same_turned (graph_in g) (graph_of p) base_same) v is),
    )

    pub points_between : (base a : Text) → (HasTooManyEdges p → ⊥) → (HasTooManyEdges q → ⊥) → (vs : List Vertex) → ArePoints (IsOneOf h numbers) vs
        → AffectedBetween base p a q (affects vs)
    points_between base a few few_too vs (order, exactly) =
        inr (few, inr (few_too, (vs, (order, λ v. (λ has. (of_programs v).0 ((exactly v).0 has), λ is. (exactly v).1 ((of_programs v).1 is))), refl)))
