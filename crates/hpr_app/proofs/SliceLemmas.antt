-- The slice of a file's graph, and why there is none.
use Rattle.std.proofs.Common.{ℕ, Bool, List, All, Err, Result, refl, ap, inl, inr}
use Rattle.std.proofs.lemmas.List.Elements.{All-weaker}
use Rattle.hpr_terms.proofs.Facts.{place_of}
use Rattle.hpr_syntax.specs.Tree.{Tree}
use Rattle.hpr_graph.specs.Graphs.{Same}
use Rattle.hpr_graph.specs.Numbered.{Numbered, graph_in}
use Rattle.hpr_graph.specs.ProgramGraph.{graph_of}
use Rattle.hpr_graph.specs.Slices.{slice_of}
use Rattle.hpr_graph.proofs.Laws.{closed_by_numbers, slice_same, slice_same_on}
use Rattle.hpr_slice.specs.Vertices.{IsOneOf}
use Rattle.hpr_words.specs.Request.{Text}
use Rattle.hpr_engine.specs.Limit.{HasTooManyEdges}
use Rattle.hpr_inputs.specs.Answer.{Merges}
use Rattle.hpr_inputs.specs.Decision.{Decision, prints, refuses}
use Rattle.hpr_inputs.specs.Points.{IsNamed, IsPoint}
use Rattle.hpr_inputs.specs.ReadsPoints.{AreNumbersFor, RefusesPoint}
use Rattle.hpr_inputs.specs.declared.answer.Kind.TheVariants.{Done}
use Rattle.hpr_inputs.specs.declared.answer.Report.{Report}
use Rattle.hpr_inputs.specs.declared.answer.Stop.{Stop}
use Rattle.hpr_inputs.specs.declared.answer.Stop.TheVariants as stop
use Rattle.hpr_inputs.proofs.PointLemmas.{named_same, stranger_map}
use Rattle.hpr_inputs.proofs.ReadLemmas.{merges_map}
use Rattle.hpr_decisions.specs.SliceFile.{IsSliceShown, Sliced}
use Rattle.hpr_decisions.proofs.GraphLemmas.{slice_shown_same}
use Rattle.hpr_app.specs.Private.SlicedIn.{SlicedIn}

module _ (p : Tree) (g : Numbered) (points : List Text) (program : Bool) where
  -- the slice at the numbers is the slice at the points
  numbers_slice : (numbers : List ℕ) → AreNumbersFor g points numbers → Same (slice_of (graph_in g) (IsOneOf g numbers)) (slice_of (graph_in g) (IsPoint points))
  numbers_slice numbers h =
      slice_same_on (graph_in g) (IsOneOf g numbers) (IsPoint points) (closed_by_numbers g)
      (λ v has. (
        λ (at, one, is). (h.exact at v is).0 one,
        λ point. (let (at, is) = place_of g.vertices v has in (at, (h.exact at v is).1 point, is)),
      ))

  pub points_sliced : (numbers bytes : List ℕ) → All (IsNamed (graph_in g)) points → AreNumbersFor g points numbers
      → IsSliceShown program p (slice_of (graph_in g) (IsOneOf g numbers)) bytes → SlicedIn p g points program (prints Done bytes)
  points_sliced numbers bytes named h text =
      let shown = slice_shown_same program p (slice_of (graph_in g) (IsOneOf g numbers)) (slice_of (graph_in g) (IsPoint points)) bytes (numbers_slice numbers h) text in
      inr (named, (bytes, shown, refl))

  pub point_refused : (s : Stop) → RefusesPoint (IsNamed (graph_in g)) points s → Merges (SlicedIn p g points program) (Err s)
  point_refused (stop.Refused message) (word, first, is) = inl (word, first, ap refuses is)
  point_refused (stop.ReadFault message) h = absurd h
  point_refused stop.Memory h = tt

  -- what is so of the graph that was made is so of the program's
  module _ (file : Text) (same : Same (graph_in g) (graph_of p)) (few : HasTooManyEdges p → ⊥) where
    of_program : (r : Decision) → SlicedIn p g points program r → Sliced file p points program r
    of_program r (inl (word, first, is)) =
        inr (few, inl (word, stranger_map (IsNamed (graph_in g)) (IsNamed (graph_of p)) (named_same (graph_in g) (graph_of p) same) points word first, is))
    of_program r (inr (named, (bytes, text, is))) =
        let all = All-weaker (IsNamed (graph_in g)) (IsNamed (graph_of p)) (λ w. (named_same (graph_in g) (graph_of p) same w).0) points named in
        let kept = slice_same (graph_in g) (graph_of p) (IsPoint points) (IsPoint points) same (λ v. (λ x. x, λ x. x)) in
        let shown = slice_shown_same program p (slice_of (graph_in g) (IsPoint points)) (slice_of (graph_of p) (IsPoint points)) bytes kept text in
        inr (few, inr (all, (bytes, shown, is)))

    pub sliced : (result : Result Report Stop) → Merges (SlicedIn p g points program) result → Merges (Sliced file p points program) result
    sliced result h = merges_map (SlicedIn p g points program) (Sliced file p points program) of_program result h
