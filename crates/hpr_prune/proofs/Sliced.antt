-- The laws of any graph that is a slice of a program's graph.
use Rattle.hpr_meaning.specs.Any.Meaning.{Meaning, HasLaws}
use Rattle.std.proofs.Common.{◌↔◌, ℕ, List, ◌∷◌, Contains}
use Rattle.hpr_syntax.specs.Body.{Body}
use Rattle.hpr_syntax.specs.Tree.{Tree}
use Rattle.hpr_syntax.specs.Shape.{IsProgram}
use Rattle.hpr_meaning.specs.Any.Run as any
use Rattle.hpr_syntax.specs.Run.{FinalValues}
use Rattle.hpr_syntax.specs.Values.{Values}
use Rattle.hpr_meaning.specs.Any.Kept as means
use Rattle.hpr_meaning.specs.Any.Standard.{standard}
use Rattle.hpr_meaning.proofs.Standard.{standard_laws, to_standard, from_standard}
use Rattle.hpr_syntax.specs.Meaning.{Ends}
use Rattle.hpr_graph.specs.declared.vertex.Vertex.{Vertex}
use Rattle.hpr_graph.specs.declared.vertex.Vertex.TheVariants.{Entry, Init, Part, Final}
use Rattle.hpr_graph.specs.Graphs.{Graph, Same}
use Rattle.hpr_graph.specs.Slices.{slice_of}
use Rattle.hpr_graph.specs.ProgramGraph.{graph_of}
use Rattle.hpr_graph.proofs.Laws.{same_turned, same_then, restrict_same}
use Rattle.hpr_paths.proofs.Among.{here, contains_among}
use Rattle.hpr_prune.specs.Programs.{BlockLeft, ended, action_kept, action_out, branch_kept, branch_out, loop_kept, loop_out, NamesLeft, none, name_kept, name_out, IsPruned, IsDrawn, without_idle}
use Rattle.hpr_prune.specs.Any.KeptLaw as law
use Rattle.hpr_prune.specs.KeptLaw.{IsSliceOf, IsKeptBy, DoesItsPart}
use Rattle.hpr_prune.proofs.Shapes.{is_program}
use Rattle.hpr_prune.proofs.GraphOf.{graph_same, entry_in}
use Rattle.hpr_prune.proofs.Kept.{kept}

-- the same vertices leave the same
module _ (V W : Vertex → Type 0) (same : (v : Vertex) → V v ↔ W v) where
  block_same : {B B' : Body} → BlockLeft V B B' → BlockLeft W B B'
  block_same ended = ended
  block_same (action_kept {t = t} {d = d} h r) = action_kept ((same _).0 h) (block_same r)
  block_same (action_out h r) = action_out (λ x. h ((same _).1 x)) (block_same r)
  block_same (branch_kept h r s q) = branch_kept ((same _).0 h) (block_same r) (block_same s) (block_same q)
  block_same (branch_out h q) = branch_out (λ x. h ((same _).1 x)) (block_same q)
  block_same (loop_kept h r q) = loop_kept ((same _).0 h) (block_same r) (block_same q)
  block_same (loop_out h q) = loop_out (λ x. h ((same _).1 x)) (block_same q)

  finals_same : {xs ys : List (List ℕ)} → NamesLeft V xs ys → NamesLeft W xs ys
  finals_same none = none
  finals_same (name_kept h r) = name_kept ((same _).0 h) (finals_same r)
  finals_same (name_out h r) = name_out (λ x. h ((same _).1 x)) (finals_same r)

  pub pruned_same : (p q : Tree) → IsPruned V p q → IsPruned W p q
  pruned_same p q pr = record { issued = pr.issued; body = block_same pr.body; finals = finals_same pr.finals }

drawn_same : (g h : Graph) → Same g h → (v : Vertex) → IsDrawn g v ↔ IsDrawn h v
drawn_same g h same Entry = (λ d. d, λ d. d)
drawn_same g h same (Init x) = (λ (e, has, leads, is). (e, (same.1 e).0 has, leads, is), λ (e, has, leads, is). (e, (same.1 e).1 has, leads, is))
drawn_same g h same (Part t c) = (λ d. d, λ d. d)
drawn_same g h same (Final x) = (λ d. d, λ d. d)

pub idle_same : (g h : Graph) → Same g h → Same (without_idle g) (without_idle h)
idle_same g h same = restrict_same g h (IsDrawn g) (IsDrawn h) same (drawn_same g h same)

-- what is kept by hpr's own meaning is kept
own_kept : (p q : Tree) (s : Values) (n : ℕ) (f : FinalValues) → law.IsKeptBy standard p q s n f → IsKeptBy p q s n f
own_kept p q s n f so = let (g, end, names, values) = so.ends in record { ends = (g, from_standard q s n g end, names, values); steps = so.steps }

-- where S has some vertex of the program's graph
module _ (p q : Tree) (g : Graph) (S : Vertex → Type 0) (ip : IsProgram p) (v : Vertex) (one : S v) (is : (graph_of p).vertex v)
    (same : Same g (slice_of (graph_of p) S)) (pr : IsPruned g.vertex p q) where
  pruned : IsPruned (slice_of (graph_of p) S).vertex p q
  pruned = pruned_same g.vertex (slice_of (graph_of p) S).vertex same.0 p q pr

  its_graph : Same (graph_of q) (without_idle (slice_of (graph_of p) S))
  its_graph = graph_same p q ip S pruned (entry_in p q ip S pruned v one is)

  pub slice_graph : Same (graph_of q) (without_idle g)
  slice_graph = same_then (graph_of q) (without_idle (slice_of (graph_of p) S)) (without_idle g) its_graph
      (idle_same (slice_of (graph_of p) S) g (same_turned g (slice_of (graph_of p) S) same))

  -- whatever the contents mean
  pub slice_keeps : (M : Meaning) → HasLaws M → (s : M.State) (n : ℕ) (f : any.FinalValues M) → means.Ends M p s n f → law.IsKeptBy M p q s n f
  slice_keeps M LW s n f e = kept M LW p q ip (is_program (slice_of (graph_of p) S).vertex p q ip pruned) S pruned its_graph s n f e

  pub slice_kept : (s : Values) (n : ℕ) (f : FinalValues) → Ends p s n f → IsKeptBy p q s n f
  slice_kept s n f e = own_kept p q s n f (slice_keeps standard standard_laws s n f (to_standard p s n f e))

-- the same of slices at lists of points
module _ (p q : Tree) (g : Graph) (ip : IsProgram p) (is : IsSliceOf p g) (pr : IsPruned g.vertex p q) where
  point : Contains (is.0 ∷ is.1) is.0
  point = contains_among is.0 (is.0 ∷ is.1) here

  pub listed_graph : Same (graph_of q) (without_idle g)
  listed_graph = slice_graph p q g (Contains (is.0 ∷ is.1)) ip is.0 point (is.2 is.0 point) is.3 pr

  pub listed_keeps : (M : Meaning) → HasLaws M → (s : M.State) (n : ℕ) (f : any.FinalValues M) → means.Ends M p s n f → law.IsKeptBy M p q s n f
  listed_keeps M LW s n f e = slice_keeps p q g (Contains (is.0 ∷ is.1)) ip is.0 point (is.2 is.0 point) is.3 pr M LW s n f e

  pub listed_part : (M : Meaning) → HasLaws M → law.DoesItsPart M p q g
  listed_part M LW = record { program = is_program g.vertex p q ip pr; graph = listed_graph; kept = listed_keeps M LW }

  pub listed_kept : (s : Values) (n : ℕ) (f : FinalValues) → Ends p s n f → IsKeptBy p q s n f
  listed_kept s n f e = slice_kept p q g (Contains (is.0 ∷ is.1)) ip is.0 point (is.2 is.0 point) is.3 pr s n f e

  pub listed_does : DoesItsPart p q g
  listed_does = record { program = is_program g.vertex p q ip pr; graph = listed_graph; kept = listed_kept }
