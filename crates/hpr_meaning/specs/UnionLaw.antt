-- The law of the union: what the merged graph of a base and its variants keeps (Horwitz, Prins and Reps 1989,
-- of two).
--
-- variant_at vs i        == the graph of the variant with the number i
-- affected_of i base vs  == the affected points of that variant
-- KeepsIn m base gs      == each affected point of each variant's graph has the slice in m that it has there
-- KeepsEach base vs      == so it is in the merged graph: so it is where there is no conflict
-- KeepsSides base a b    == the same of two variants: at each side each affected point has the slice in the
--                           merged graph that it has in its side's graph
-- LiesInOne base vs v    == v is a vertex of one of the slices whose union the merged graph is
-- IsUnionKept base vs    == the law: each preserved point has the slice that it has in base's graph; where
--                           each affected point keeps its slice, so do a variant's taken together
--                           (`AreKept`); so they do where there is no conflict; each vertex lies in one of
--                           the slices
-- AreKept i base vs      == the slice of the variant's affected points, taken together, is that of its graph
use Rattle.std.specs.Prelude.{◌⊎◌, ℕ, List, [], ◌∷◌}
use Rattle.hpr_syntax.specs.Tree.{Tree}
use Rattle.hpr_graph.specs.declared.vertex.Vertex.{Vertex}
use Rattle.hpr_graph.specs.Answer.{graphs_of, merged_of_all}
use Rattle.hpr_graph.specs.Conflicts.{HasNoConflict, graph_at}
use Rattle.hpr_graph.specs.Graphs.{Graph, Same}
use Rattle.hpr_graph.specs.Points.{IsAffected, IsPreservedBy}
use Rattle.hpr_graph.specs.ProgramGraph.{graph_of}
use Rattle.hpr_graph.specs.Slices.{slice_of, slice_at}

abbrev pub variant_at : List Tree → ℕ → Graph
variant_at vs i = graph_at (graphs_of vs) i

abbrev pub affected_of : ℕ → Tree → List Tree → Vertex → Type 0
affected_of i base vs v = IsAffected (variant_at vs i) (graph_of base) v

abbrev pub KeepsIn : Graph → Graph → List Graph → Type 0
KeepsIn m base gs =
    (i : ℕ) (v : Vertex) → IsAffected (graph_at gs i) base v → Same (slice_at m v) (slice_at (graph_at gs i) v)

abbrev pub KeepsEach : Tree → List Tree → Type 0
KeepsEach base vs = KeepsIn (merged_of_all base vs) (graph_of base) (graphs_of vs)

abbrev pub KeepsSides : Tree → Tree → Tree → Type 0
KeepsSides base a b = KeepsEach base (a ∷ b ∷ [])

abbrev pub LiesInOne : Tree → List Tree → Vertex → Type 0
LiesInOne base vs v =
    ((i : ℕ) × (slice_of (variant_at vs i) (affected_of i base vs)).vertex v)
    ⊎ (slice_of (graph_of base) (IsPreservedBy (graph_of base) (graphs_of vs))).vertex v

abbrev pub AreKept : ℕ → Tree → List Tree → Type 0
AreKept i base vs =
    Same (slice_of (merged_of_all base vs) (affected_of i base vs)) (slice_of (variant_at vs i) (affected_of i base vs))

pub record IsUnionKept (base : Tree) (vs : List Tree) : Type 0 where
  pub preserved : (v : Vertex) → IsPreservedBy (graph_of base) (graphs_of vs) v
      → Same (slice_at (merged_of_all base vs) v) (slice_at (graph_of base) v)
  pub affected : KeepsEach base vs → (i : ℕ) → AreKept i base vs
  pub free : HasNoConflict (graph_of base) (graphs_of vs) → (i : ℕ) → AreKept i base vs
  pub covered : (v : Vertex) → (merged_of_all base vs).vertex v → LiesInOne base vs v
