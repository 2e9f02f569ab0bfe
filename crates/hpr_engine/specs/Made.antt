-- The graphs of a base and its variants, made and merged.
--
-- IsGraphOf t g          == t is a program, and g is its graph by numbers
-- AreGraphsOf ts gs      == so is each graph of the list of the program at the same place, and there are as
--                           many
-- IsMergeOf base a b g   == g is the merged graph by numbers, and there is no conflict
use Rattle.std.specs.Prelude.{List, [], ◌∷◌}
use Rattle.hpr_syntax.specs.Shape.{IsProgram}
use Rattle.hpr_syntax.specs.Tree.{Tree}
use Rattle.hpr_graph.specs.Conflicts.{AreConflicts}
use Rattle.hpr_graph.specs.Graphs.{Graph, Same}
use Rattle.hpr_graph.specs.Numbered.{Numbered, IsNumbered, graph_in}
use Rattle.hpr_graph.specs.Points.{merged}
use Rattle.hpr_graph.specs.ProgramGraph.{graph_of}

pub record IsGraphOf (t : Tree) (g : Numbered) : Type 0 where
  pub program : IsProgram t
  pub numbered : IsNumbered g
  pub same : Same (graph_in g) (graph_of t)

abbrev pub AreGraphsOf : List Tree → List Numbered → Type 0
AreGraphsOf [] [] = Unit {0}
AreGraphsOf [] (g ∷ gs) = ⊥
AreGraphsOf (t ∷ ts) [] = ⊥
AreGraphsOf (t ∷ ts) (g ∷ gs) = IsGraphOf t g × AreGraphsOf ts gs

pub record IsMergeOf (base a b : Graph) (g : Numbered) : Type 0 where
  pub numbered : IsNumbered g
  pub same : Same (graph_in g) (merged base a b)
  pub free : AreConflicts base a b []
