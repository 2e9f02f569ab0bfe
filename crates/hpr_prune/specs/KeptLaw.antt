-- The law of slices as programs: what a slice leaves of a program does what it did.
--
-- IsSliceOf p g      == g is the slice of p's graph at some of its vertices, of which there is at least one
-- names_in f         == the names of the final values f, in their order
-- IsKeptBy p q s n f == from the state s, from which p ends within n steps with the final values f, q ends
--                       within n steps; its final values are of the names of its `end`, each with p's value;
--                       and its steps are those of p that its parts do: with the same turns, value and reads
-- DoesItsPart p q g  == q is a program whose graph is g without the Init vertices that nothing in it uses,
--                       and from every state on which p ends, q does so
use Rattle.std.specs.Prelude.{◌≡◌, ◌↔◌, ℕ, List, ◌∷◌, map, Contains}
use Rattle.hpr_syntax.specs.Nests.{Says}
use Rattle.hpr_syntax.specs.Tree.{Tree}
use Rattle.hpr_syntax.specs.Shape.{IsProgram}
use Rattle.hpr_syntax.specs.declared.value.Value.{Value}
use Rattle.hpr_syntax.specs.Values.{Values}
use Rattle.hpr_syntax.specs.Run.{FinalValues}
use Rattle.hpr_syntax.specs.Meaning.{Ends}
use Rattle.hpr_graph.specs.declared.vertex.Vertex.{Vertex}
use Rattle.hpr_graph.specs.Graphs.{Graph, Same}
use Rattle.hpr_graph.specs.Slices.{slice_of}
use Rattle.hpr_graph.specs.ProgramGraph.{graph_of}
use Rattle.hpr_meaning.specs.Instances.{Instance, instances}
use Rattle.hpr_prune.specs.Programs.{without_idle}

abbrev pub IsSliceOf : Tree → Graph → Type 0
IsSliceOf p g =
    (v : Vertex) × (points : List Vertex) × ((w : Vertex) → Contains (v ∷ points) w → (graph_of p).vertex w)
    × Same g (slice_of (graph_of p) (Contains (v ∷ points)))

abbrev pub names_in : FinalValues → List (List ℕ)
names_in f = map (λ x. x.0) f

pub record IsKeptBy (p q : Tree) (s : Values) (n : ℕ) (f : FinalValues) : Type 0 where
  pub ends : (g : FinalValues) × Ends q s n g × (names_in g ≡ q.finals) × ((x : List ℕ) (v : Value) → Contains g (x, v) → Contains f (x, v))
  pub steps : (i : Instance) → Says q.body i.0.0 i.1.content → Contains (instances q s n) i ↔ Contains (instances p s n) i

pub record DoesItsPart (p q : Tree) (g : Graph) : Type 0 where
  pub program : IsProgram q
  pub graph : Same (graph_of q) (without_idle g)
  pub kept : (s : Values) (n : ℕ) (f : FinalValues) → Ends p s n f → IsKeptBy p q s n f
