-- The law of slices as programs, whatever the contents mean: what a slice leaves of a program does what it
-- did.
--
-- names_in f         == the names of the final values f, in their order
-- IsKeptBy p q s n f == from the state s, from which p ends within n steps with the final values f, q ends
--                       within n steps; its final values are of the names of its `end`, each with p's value;
--                       and its steps are those of p that its parts do: with the same turns, value and reads
-- DoesItsPart p q g  == q is a program whose graph is g without the Init vertices that nothing in it uses,
--                       and from every state on which p ends, q does so
use Rattle.hpr_meaning.specs.Any.Meaning.{Meaning}
use Rattle.std.specs.Prelude.{◌≡◌, ◌↔◌, ℕ, List, map, Contains}
use Rattle.hpr_syntax.specs.Nests.{Says}
use Rattle.hpr_syntax.specs.Tree.{Tree}
use Rattle.hpr_syntax.specs.Shape.{IsProgram}
use Rattle.hpr_meaning.specs.Any.Run.{FinalValues}
use Rattle.hpr_meaning.specs.Any.Kept.{Ends}
use Rattle.hpr_graph.specs.Graphs.{Graph, Same}
use Rattle.hpr_graph.specs.ProgramGraph.{graph_of}
use Rattle.hpr_meaning.specs.Any.Instances.{Instance, instances}
use Rattle.hpr_prune.specs.Programs.{without_idle}

module _ (M : Meaning) where
  abbrev pub names_in : FinalValues M → List (List ℕ)
  names_in f = map (λ x. x.0) f

pub record IsKeptBy (M : Meaning) (p q : Tree) (s : M.State) (n : ℕ) (f : FinalValues M) : Type 0 where
  pub ends : (g : FinalValues M) × Ends M q s n g × (names_in M g ≡ q.finals) × ((x : List ℕ) (v : M.Value) → Contains g (x, v) → Contains f (x, v))
  pub steps : (i : Instance M) → Says q.body i.0.0 i.1.content → Contains (instances M q s n) i ↔ Contains (instances M p s n) i

pub record DoesItsPart (M : Meaning) (p q : Tree) (g : Graph) : Type 0 where
  pub program : IsProgram q
  pub graph : Same (graph_of q) (without_idle g)
  pub kept : (s : M.State) (n : ℕ) (f : FinalValues M) → Ends M p s n f → IsKeptBy M p q s n f
