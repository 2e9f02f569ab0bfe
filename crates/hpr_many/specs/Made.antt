-- The graphs of a base and many variants, merged.
--
-- IsMergeOfAll base gs g == g is the merged graph by numbers, and there is no conflict
use Rattle.std.specs.Prelude.{ℕ, List, []}
use Rattle.hpr_graph.specs.declared.edge.Edge.{Edge}
use Rattle.hpr_graph.specs.declared.vertex.Vertex.{Vertex}
use Rattle.hpr_graph.specs.Conflicts.{AreConflictsBy}
use Rattle.hpr_graph.specs.Graphs.{Graph, Same}
use Rattle.hpr_graph.specs.Numbered.{Numbered, IsNumbered, graph_in}
use Rattle.hpr_graph.specs.Points.{merged_all}

pub record IsMergeOfAll (base : Graph) (gs : List Graph) (g : Numbered) : Type 0 where
  pub numbered : IsNumbered g
  pub same : Same (graph_in g) (merged_all base gs)
  pub free : AreConflictsBy {X = ℕ × Vertex × Edge} (λ t. t) base gs []
