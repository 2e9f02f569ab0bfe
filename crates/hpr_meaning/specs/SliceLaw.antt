-- The law of shared slices: what two programs with one slice have in common, whatever else they do.
--
-- HasInSlice p S v         == v is a vertex of the slice of the program p by S
-- SharesSlice p q S s n m  == the law, for two programs with one slice by S of which p ends, from the state s
--                             with n and m steps to spend: each instance of the slice in q's run stands in
--                             p's, with the same turns, number and reads; q faults at no part of the slice;
--                             and where q ends too, each instance of the slice in p's run stands in q's, and
--                             each name whose Final vertex is in the slice has the same final value
use Rattle.std.specs.Prelude.{◌≡◌, ◌↔◌, ℕ, List, Contains}
use Rattle.hpr_terms.specs.declared.tag.Tag.{Tag}
use Rattle.hpr_syntax.specs.declared.rows.Content.{Content}
use Rattle.hpr_syntax.specs.Nests.{Says}
use Rattle.hpr_syntax.specs.Tree.{Tree}
use Rattle.hpr_syntax.specs.declared.value.Value.{Value}
use Rattle.hpr_syntax.specs.Values.{Values}
use Rattle.hpr_syntax.specs.Value.{Fault}
use Rattle.hpr_syntax.specs.Run.{FinalValues, ends, faults, run}
use Rattle.hpr_graph.specs.declared.vertex.Vertex.{Vertex}
use Rattle.hpr_graph.specs.declared.vertex.Vertex.TheVariants.{Part, Final}
use Rattle.hpr_graph.specs.ProgramGraph.{graph_of}
use Rattle.hpr_graph.specs.Slices.{slice_of}
use Rattle.hpr_meaning.specs.Instances.{Instance, instances}
use Rattle.hpr_meaning.specs.OrderLaw.{vertex_of}

abbrev pub HasInSlice : Tree → (Vertex → Type 0) → Vertex → Type 0
HasInSlice p S v = (slice_of (graph_of p) S).vertex v

pub record SharesSlice (p q : Tree) (S : Vertex → Type 0) (s : Values) (n m : ℕ) : Type 0 where
  pub done_alike : (i : Instance) → Contains (instances q s m) i → HasInSlice p S (vertex_of i) → Contains (instances p s n) i
  pub no_fault : (t : Tag) (c : Content) (fault : Fault) (steps : ℕ) → run q s m ≡ faults t fault steps → Says q.body t c → ¬ HasInSlice p S (Part t c)
  pub done_by_both : (finals : FinalValues) (steps : ℕ) → run q s m ≡ ends finals steps → (i : Instance) → Contains (instances p s n) i
      → HasInSlice p S (vertex_of i) → Contains (instances q s m) i
  pub same_finals : (finals finals' : FinalValues) (steps steps' : ℕ) → run p s n ≡ ends finals steps → run q s m ≡ ends finals' steps'
      → (x : List ℕ) (v : Value) → HasInSlice p S (Final x) → Contains finals (x, v) ↔ Contains finals' (x, v)
