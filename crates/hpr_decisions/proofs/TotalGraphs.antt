-- Each graph has its texts; so a decision on the graph of a program is there.
use Rattle.std.proofs.Common.{Bool, true, false, ℕ, List, [], ◌∷◌, inl, inr, refl}
use Rattle.hpr_terms.proofs.Facts.{by_both}
use Rattle.hpr_syntax.specs.Print.{text}
use Rattle.hpr_syntax.specs.Tree.{Tree}
use Rattle.hpr_graph.specs.Points.{IsAffected}
use Rattle.hpr_graph.specs.ProgramGraph.{graph_of, IsVertexOf, IsEdgeOf}
use Rattle.hpr_graph.specs.Slices.{slice_of}
use Rattle.hpr_graph.proofs.Bounded.{of_within}
use Rattle.hpr_engine.specs.Limit.{HasTooManyEdges}
use Rattle.hpr_report.specs.AffectedText.{IsAffectedText}
use Rattle.hpr_words.specs.Request.{Text}
use Rattle.hpr_decisions.specs.AffectedFiles.{AffectedPoints}
use Rattle.hpr_inputs.specs.Decision.{Decision, Prints, refuses}
use Rattle.hpr_decisions.specs.GraphFile.{IsShown, Graphed}
use Rattle.hpr_decisions.specs.Graphs.{OnAllGraphs, OnGraph, too_many_edges}
use Rattle.hpr_inputs.specs.Points.{IsPoint, OnPoints}
use Rattle.hpr_decisions.specs.SliceFile.{IsSliceShown, Sliced}
use Rattle.hpr_prune.proofs.OneProgram.{some_pruned}
use Rattle.hpr_merge.proofs.BoundedGraph.{vertices_bounded, edges_bounded}
use Rattle.hpr_inputs.proofs.SomeDecision.{HasOne, on_points, printed}
use Rattle.hpr_report.proofs.SomeText.{some_graph_text, some_graph_json, some_affected_text}

pub on_graph : (file : List ℕ) (p : Tree) (next : Decision → Type 0) → HasOne next → HasOne (λ r. OnGraph file p (next r) r)
on_graph file p next decides =
    by_both (HasTooManyEdges p) ((r : Decision) × OnGraph file p (next r) r)
    (λ many n. n (refuses (too_many_edges file), inl (many, refl)))
    (λ few n. decides (λ found. n (found.0, inr (few, found.1))))

pub on_all_graphs : (names : List Text) (ps : List Tree) (next : Decision → Type 0) → HasOne next → HasOne (λ r. OnAllGraphs names ps (next r) r)
on_all_graphs [] ps next decides = decides
on_all_graphs (name ∷ names) [] next decides = decides
on_all_graphs (name ∷ names) (p ∷ ps) next decides = on_graph name p (λ r. OnAllGraphs names ps (next r) r) (on_all_graphs names ps next decides)

-- what is shown of a program's graph, of a slice of it and of its affected points
shown : (json : Bool) (p : Tree) → ¬ (¬ ((text : List ℕ) × IsShown json (graph_of p) text))
shown true p = some_graph_json (graph_of p) (vertices_bounded p) (edges_bounded p)
shown false p = some_graph_text (graph_of p) (vertices_bounded p) (edges_bounded p)

pub graphed : (file : Text) (p : Tree) (json : Bool) → HasOne (Graphed file p json)
graphed file p json = on_graph file p (Prints (IsShown json (graph_of p))) (printed (IsShown json (graph_of p)) (shown json p))

-- a slice as a graph has its text, and as a program it is one
slice_shown : (program : Bool) (p : Tree) (points : List Text) → ¬ (¬ ((bytes : List ℕ) × IsSliceShown program p (slice_of (graph_of p) (IsPoint points)) bytes))
slice_shown true p points n = some_pruned (slice_of (graph_of p) (IsPoint points)).vertex p (λ left. n (text left.0, (left.0, left.1, refl)))
slice_shown false p points n =
    let part = slice_of (graph_of p) (IsPoint points) in
    let vertices = of_within part.vertex (IsVertexOf p) (λ v h. h.0) (vertices_bounded p) in
    let edges = of_within part.edge (IsEdgeOf p) (λ e h. h.0) (edges_bounded p) in
    some_graph_text part vertices edges n

pub sliced : (file : Text) (p : Tree) (points : List Text) (program : Bool) → HasOne (Sliced file p points program)
sliced file p points program =
    let Shown = IsSliceShown program p (slice_of (graph_of p) (IsPoint points)) in
    on_graph file p (λ r. OnPoints (graph_of p) points (Prints Shown r) r)
    (on_points (graph_of p) points (Prints Shown) (printed Shown (slice_shown program p points)))

pub affected_points : (base : Text) (p : Tree) (a : Text) (q : Tree) → HasOne (AffectedPoints base p a q)
affected_points base p a q =
    let P = IsAffected (graph_of q) (graph_of p) in
    let bounded = of_within P (IsVertexOf q) (λ v h. h.0) (vertices_bounded q) in
    on_graph base p (λ r. OnGraph a q (Prints (IsAffectedText P) r) r)
    (on_graph a q (Prints (IsAffectedText P)) (printed (IsAffectedText P) (some_affected_text P bounded)))
