-- Reasons of a graph, and of the same graph by other numbers.
use Rattle.std.proofs.Common.{◌≡◌, ℕ, List, subst}
use Rattle.hpr_graph.specs.declared.vertex.Vertex.{Vertex}
use Rattle.hpr_graph.specs.Direct.{IsAlike, IsDirectlyAffected}
use Rattle.hpr_graph.specs.Graphs.{Graph, Same}
use Rattle.hpr_graph.specs.Numbered.{Numbered, IsNumbered, graph_in}
use Rattle.hpr_graph.specs.Points.{IsAffected}
use Rattle.hpr_graph.specs.Whole.{IsWhole}
use Rattle.hpr_graph.proofs.Laws.{affected_same, same_itself, same_turned}
use Rattle.hpr_affected.specs.Comparison.{Sides}
use Rattle.hpr_affected.specs.Numbers.{AreNumbersOf}
use Rattle.hpr_impact.specs.declared.why.Reason.{Reason}
use Rattle.hpr_impact.specs.Reasons.{AreReasons}
use Rattle.hpr_impact.specs.Private.Ways.{AreBeside}

pub points_beside : (g base : Numbered) (s : Sides) (starts points : List ℕ) → s.graph ≡ g → s.other ≡ base → IsNumbered g → IsNumbered base → IsWhole (graph_in g) → IsWhole (graph_in base)
    → AreNumbersOf s.graph (IsDirectlyAffected (graph_in s.graph) (graph_in s.other)) starts → AreNumbersOf s.graph (IsAffected (graph_in s.graph) (graph_in s.other)) points → AreBeside g base starts points
points_beside g base s starts points is other k kb whole whole_other direct affected = record {
  graph = k;
  other = kb;
  whole = whole;
  whole_other = whole_other;
  direct =
      subst (λ (h : Numbered). AreNumbersOf h (IsDirectlyAffected (graph_in h) (graph_in base)) starts) is
      (subst (λ (h : Numbered). AreNumbersOf s.graph (IsDirectlyAffected (graph_in s.graph) (graph_in h)) starts) other direct);
  affected =
      subst (λ (h : Numbered). AreNumbersOf h (IsAffected (graph_in h) (graph_in base)) points) is
      (subst (λ (h : Numbered). AreNumbersOf s.graph (IsAffected (graph_in s.graph) (graph_in h)) points) other affected);
}

alike_same : (g h base : Graph) (v : Vertex) → Same g h → IsAlike g base v → IsAlike h base v
alike_same g h base v same (there, into, uses) = (
  there,
  λ e is l. (λ x. (into e is l).0 ((same.1 e).1 x), λ x. (same.1 e).0 ((into e is l).1 x)),
  λ e is. (λ x. (uses e is).0 ((same.1 e).1 x), λ x. (same.1 e).0 ((uses e is).1 x)),
)

direct_same : (g h base : Graph) (v : Vertex) → Same g h → IsDirectlyAffected g base v → IsDirectlyAffected h base v
direct_same g h base v same (there, differs) = ((same.0 v).0 there, λ alike. differs (alike_same h g base v (same_turned g h same) alike))

pub reasons_same : (g h base : Graph) (rs : List Reason) → Same g h → AreReasons g base rs → AreReasons h base rs
reasons_same g h base rs same are = record {
  points = (
    are.points.0,
    λ v. (
      λ has. affected_same g h base base same (same_itself base) v ((are.points.1 v).0 has),
      λ a. (are.points.1 v).1 (affected_same h g base base (same_turned g h same) (same_itself base) v a),
    ),
  );
  direct = λ r has. (
    λ none. direct_same g h base r.point same ((are.direct r has).0 none),
    λ d. (are.direct r has).1 (direct_same h g base r.point (same_turned g h same) d),
  );
  edges = λ r e has by. (let (edge, leads, into) = are.edges r e has by in ((same.1 e).0 edge, leads, into));
  roots = are.roots;
}
