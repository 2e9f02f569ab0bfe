-- At each conflict of programs an edge stands, and a list of the conflicts has the conflict.
use Rattle.std.proofs.Common.{◌≡◌, ◌⊎◌, ℕ, List, [], ◌∷◌, Contains, refl, sym, ap, subst}
use Rattle.std.specs.List.{AllByRecursion}
use Rattle.hpr_syntax.specs.Shape.{IsProgram}
use Rattle.hpr_syntax.specs.Tree.{Tree}
use Rattle.hpr_graph.specs.declared.conflict.Conflict.{Conflict}
use Rattle.hpr_graph.specs.declared.conflict.Side.{Side}
use Rattle.hpr_graph.specs.declared.edge.Edge.{Edge}
use Rattle.hpr_graph.specs.declared.vertex.Vertex.{Vertex}
use Rattle.hpr_graph.specs.Answer.{graphs_of, merged_of, merged_of_all}
use Rattle.hpr_graph.specs.Conflicts.{number_of, graph_at, graph_on, told_as, AreConflicts, AreConflictsBy, IsAdded, IsConflictAt, IsConflictOf, IsLeast}
use Rattle.hpr_graph.specs.Graphs.{Graph, Same}
use Rattle.hpr_graph.specs.Points.{IsAffected}
use Rattle.hpr_graph.specs.ProgramGraph.{graph_of}
use Rattle.hpr_graph.specs.Slices.{slice_at}
use Rattle.hpr_closure.proofs.ProgramFinite.{program_finite, programs_finite}
use Rattle.hpr_closure.proofs.ProgramWhole.{program_whole, programs_whole}
use Rattle.hpr_merge.proofs.EdgeStands as of_graphs
use Rattle.hpr_merge.proofs.SomeConflicts.{one_side}

module _ (base : Tree) (vs : List Tree) (is : IsProgram base) (all : AllByRecursion IsProgram vs) (i : ℕ) (v : Vertex) where
  abbrev M : Graph
  M = merged_of_all base vs

  abbrev G : Graph
  G = graph_at (graphs_of vs) i

  abbrev Added : Type 0
  Added = (e : Edge) × IsLeast (IsAdded M G v) e

  pub kept_or_added : IsAffected G (graph_of base) v → Same (slice_at M v) (slice_at G v) ⊎ Added
  kept_or_added = of_graphs.kept_or_added (graph_of base) (graphs_of vs) (program_whole base is) (program_finite base) (programs_whole vs all) (programs_finite vs) i v

  pub stands : IsConflictAt M G (graph_of base) v → Added
  stands = of_graphs.edge_stands (graph_of base) (graphs_of vs) (program_whole base is) (program_finite base) (programs_whole vs all) (programs_finite vs) i v

  -- a list of the conflicts lacks none, where each can be told
  module _ {X : Type 0} (at : X → ℕ × Vertex × Edge) (xs : List X) (exact : AreConflictsBy at (graph_of base) (graphs_of vs) xs)
      (tell : (e : Edge) → (x : X) × (◌≡◌ {A = ℕ × Vertex × Edge} (at x) (i, v, e))) where
    abbrev Is : ℕ × Vertex × Edge → Type 0
    Is p = IsConflictOf (graph_of base) (graphs_of vs) p.0 p.1 p.2

    pub told_all : IsConflictAt M G (graph_of base) v → (x : X) × Contains xs x × ((at x).0 ≡ i) × ((at x).1 ≡ v)
    told_all conflict =
        let (e, least) = stands conflict in
        let (x, is_at) = tell e in
        (x, (exact.0 x).1 (subst Is (sym is_at) (conflict, least)), ap (λ (p : ℕ × Vertex × Edge). p.0) is_at, ap (λ (p : ℕ × Vertex × Edge). p.1) is_at)

-- the same of two variants
pub told : (base a b : Tree) (cs : List Conflict) → IsProgram base → IsProgram a → IsProgram b → AreConflicts (graph_of base) (graph_of a) (graph_of b) cs → (side : Side) (v : Vertex)
    → IsConflictAt (merged_of base a b) (graph_on side (graph_of a) (graph_of b)) (graph_of base) v
    → (c : Conflict) × Contains cs c × (c.side ≡ side) × (c.point ≡ v)
told base a b cs is is_a is_b exact side v conflict =
    let (c, there, number, point) = told_all base (a ∷ b ∷ []) is (is_a, (is_b, tt)) (number_of side) v told_as cs exact (λ e. (record { side = side; point = v; edge = e }, refl)) conflict in
    (c, there, one_side c.side side number, point)
