-- A graph is shown in one way, and so is one that is the same; so is a slice, as a graph or as a program.
use Rattle.std.proofs.Common.{◌≡◌, ◌∙◌, ℕ, Bool, true, false, List, refl, sym, ap, inr}
use Rattle.hpr_syntax.specs.Print.{text}
use Rattle.hpr_syntax.specs.Tree.{Tree}
use Rattle.hpr_graph.specs.Graphs.{Graph, Same}
use Rattle.hpr_graph.specs.ProgramGraph.{graph_of}
use Rattle.hpr_prune.proofs.OneProgram.{one_pruned, same_pruned}
use Rattle.hpr_report.proofs.OneText.{one_graph_text, one_graph_json, graph_text_same, graph_json_same}
use Rattle.hpr_words.specs.Request.{Text}
use Rattle.hpr_inputs.specs.Decision.{prints}
use Rattle.hpr_decisions.specs.GraphFile.{IsShown, Graphed}
use Rattle.hpr_decisions.specs.SliceFile.{IsSliceShown}
use Rattle.hpr_engine.specs.Limit.{HasTooManyEdges}
use Rattle.hpr_inputs.specs.declared.answer.Kind.TheVariants.{Done}

pub one_shown : (json : Bool) (g : Graph) (x y : List ℕ) → IsShown json g x → IsShown json g y → x ≡ y
one_shown true g x y h k = one_graph_json g x y h k
one_shown false g x y h k = one_graph_text g x y h k

pub one_slice_shown : (program : Bool) (p : Tree) (g : Graph) (x y : List ℕ) → IsSliceShown program p g x → IsSliceShown program p g y → x ≡ y
one_slice_shown true p g x y (q, left, is) (r, left_too, so) = is ∙ ap text (one_pruned g.vertex p q r left left_too) ∙ sym so
one_slice_shown false p g x y h k = one_graph_text g x y h k

pub slice_shown_same : (program : Bool) (p : Tree) (g h : Graph) (bytes : List ℕ) → Same g h → IsSliceShown program p g bytes → IsSliceShown program p h bytes
slice_shown_same true p g h bytes same (q, left, is) = (q, same_pruned g.vertex h.vertex (λ v. (same.0 v).0) (λ v. (same.0 v).1) p q left, is)
slice_shown_same false p g h bytes same is = graph_text_same g h bytes same is

pub shown_same : (json : Bool) (g h : Graph) (bytes : List ℕ) → Same g h → IsShown json g bytes → IsShown json h bytes
shown_same true g h bytes same is = graph_json_same g h bytes same is
shown_same false g h bytes same is = graph_text_same g h bytes same is

-- the graph that was made is that of the program
pub decided : (file : Text) (p : Tree) (json : Bool) (g : Graph) (bytes : List ℕ) → Same g (graph_of p) → (HasTooManyEdges p → ⊥) → IsShown json g bytes
    → Graphed file p json (prints Done bytes)
decided file p json g bytes same few is = inr (few, (bytes, shown_same json g (graph_of p) bytes same is, refl))
