-- The points of three graphs.
--
-- ArePointsOf base a b points_a points_b points_base == the numbers of a's affected points, of b's, and of
--                                                       base's preserved points
use Rattle.std.specs.Prelude.{ℕ, List}
use Rattle.hpr_graph.specs.Numbered.{Numbered, graph_in}
use Rattle.hpr_graph.specs.Points.{IsAffected, IsPreserved}
use Rattle.hpr_affected.specs.Numbers.{AreNumbersOf}

pub record ArePointsOf (base a b : Numbered) (points_a points_b points_base : List ℕ) : Type 0 where
  pub on_a : AreNumbersOf a (IsAffected (graph_in a) (graph_in base)) points_a
  pub on_b : AreNumbersOf b (IsAffected (graph_in b) (graph_in base)) points_b
  pub on_base : AreNumbersOf base (IsPreserved (graph_in base) (graph_in a) (graph_in b)) points_base
