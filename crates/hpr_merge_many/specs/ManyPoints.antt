-- The affected points of many variants.
--
-- AreAffectedIn base gs rows == for each variant's graph its row of the numbers of its affected points
use Rattle.std.specs.Prelude.{◌≡◌, ℕ, List, Some, length, slice_get}
use Rattle.hpr_search.specs.Rows.{numbers_at}
use Rattle.hpr_graph.specs.Numbered.{Numbered, graph_in}
use Rattle.hpr_graph.specs.Points.{IsAffected}
use Rattle.hpr_affected.specs.Numbers.{AreNumbersOf}

pub record AreAffectedIn (base : Numbered) (gs : List Numbered) (rows : List (List ℕ)) : Type 0 where
  pub count : length rows ≡ length gs
  pub each : (at : ℕ) (g : Numbered) → slice_get gs at ≡ Some g
      → AreNumbersOf g (IsAffected (graph_in g) (graph_in base)) (numbers_at rows at)
