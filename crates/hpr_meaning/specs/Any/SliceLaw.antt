-- The law of shared slices, whatever the contents mean: what two programs with one slice have in common.
--
-- SharesSlice p q S s n m == the law, for two programs with one slice by S of which p ends, from the state s
--                            with n and m steps to spend: each instance of the slice in q's run stands in
--                            p's, with the same turns, reads and number; q faults at no part of the slice;
--                            and where q ends too, each instance of the slice in p's run stands in q's, and
--                            each name whose Final vertex is in the slice has the same final value
use Rattle.hpr_meaning.specs.Any.Meaning.{Meaning}
use Rattle.std.specs.Prelude.{◌≡◌, ◌↔◌, ℕ, List, Contains}
use Rattle.hpr_terms.specs.declared.tag.Tag.{Tag}
use Rattle.hpr_syntax.specs.declared.rows.Content.{Content}
use Rattle.hpr_syntax.specs.Nests.{Says}
use Rattle.hpr_syntax.specs.Tree.{Tree}
use Rattle.hpr_meaning.specs.Any.Run.{FinalValues, ends, faults, run}
use Rattle.hpr_graph.specs.declared.vertex.Vertex.{Vertex}
use Rattle.hpr_graph.specs.declared.vertex.Vertex.TheVariants.{Part, Final}
use Rattle.hpr_meaning.specs.Any.Instances.{Instance, instances}
use Rattle.hpr_meaning.specs.Any.OrderLaw.{vertex_of}
use Rattle.hpr_meaning.specs.SliceLaw.{HasInSlice}

pub record SharesSlice (M : Meaning) (p q : Tree) (S : Vertex → Type 0) (s : M.State) (n m : ℕ) : Type 0 where
  pub done_alike : (i : Instance M) → Contains (instances M q s m) i → HasInSlice p S (vertex_of M i) → Contains (instances M p s n) i
  pub no_fault : (t : Tag) (c : Content) (fault : M.Fault) (steps : ℕ) → run M q s m ≡ faults t fault steps → Says q.body t c → ¬ HasInSlice p S (Part t c)
  pub done_by_both : (finals : FinalValues M) (steps : ℕ) → run M q s m ≡ ends finals steps → (i : Instance M) → Contains (instances M p s n) i
      → HasInSlice p S (vertex_of M i) → Contains (instances M q s m) i
  pub same_finals : (finals finals' : FinalValues M) (steps steps' : ℕ) → run M p s n ≡ ends finals steps → run M q s m ≡ ends finals' steps'
      → (x : List ℕ) (v : M.Value) → HasInSlice p S (Final x) → Contains finals (x, v) ↔ Contains finals' (x, v)
