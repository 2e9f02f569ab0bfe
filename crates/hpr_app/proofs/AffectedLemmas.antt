-- The affected points of two files' graphs.
use Rattle.std.proofs.Common.{◌≡◌, ℕ, ◌↔◌, List, [], ◌∷◌, Option, Err, Result, refl, ap, inl, inr}
use Rattle.hpr_io.specs.Files.{Files}
use Rattle.hpr_terms.proofs.Facts.{place_of}
use Rattle.hpr_syntax.specs.Tree.{Tree}
use Rattle.hpr_graph.specs.declared.vertex.Vertex.{Vertex}
use Rattle.hpr_graph.specs.Graphs.{Same}
use Rattle.hpr_graph.specs.Numbered.{Numbered, graph_in}
use Rattle.hpr_graph.specs.Points.{IsAffected}
use Rattle.hpr_graph.specs.ProgramGraph.{graph_of}
use Rattle.hpr_graph.proofs.Laws.{affected_same, same_turned}
use Rattle.hpr_affected.specs.Numbers.{AreNumbersOf}
use Rattle.hpr_report.specs.AffectedText.{IsAffectedText, IsOneOf}
use Rattle.hpr_report.proofs.OneText.{affected_text_same}
use Rattle.hpr_words.specs.Request.{Text}
use Rattle.hpr_decisions.specs.AffectedFiles.{AffectedOutcome, AffectedPoints}
use Rattle.hpr_inputs.specs.Answer.{StopIs, Decides, Merges}
use Rattle.hpr_inputs.specs.Decision.{Decision, prints, refuses}
use Rattle.hpr_inputs.specs.ReadsFile.{Fails}
use Rattle.hpr_inputs.specs.Reads.{IfTold, IsReached}
use Rattle.hpr_engine.specs.Limit.{HasTooManyEdges}
use Rattle.hpr_inputs.specs.Files.{OnFile}
use Rattle.hpr_inputs.specs.declared.answer.Kind.TheVariants.{Done}
use Rattle.hpr_inputs.specs.declared.answer.Report.{Report}
use Rattle.hpr_inputs.specs.declared.answer.Stop.{Stop}
use Rattle.hpr_inputs.specs.declared.answer.Stop.TheVariants as stop
use Rattle.hpr_app.specs.Private.MakesGraph.{FailsGraph}
use Rattle.hpr_inputs.proofs.ReadLemmas.{FileOf, fails_from, file_fails, past_file, past_last_file, spelled}

-- the order of causes
module _ (files : Option Files) (base a : List ℕ) where
  abbrev pub Reaches : Decision → Type 0
  Reaches r = IfTold files (λ fs. AffectedOutcome fs base a r)

  abbrev pub Reads : List ℕ → Type 0
  Reads file = IsReached files (base ∷ a ∷ []) file

  -- what the outcome is behind the first file
  abbrev AfterBase : Files → Tree → Decision → Type 0
  AfterBase fs p d = OnFile fs a (λ q. AffectedPoints base p a q d) d

  module _ (before now : ℕ) where
    pub base_fails : (s : Stop) → Fails files base before now s → StopIs Reaches Reads before now s
    base_fails s h = file_fails files Reads before now base AfterBase s (inl refl) h

    pub a_fails : (then : ℕ) (p : Tree) (s : Stop) → FileOf files base p → then ≡ before → Fails files a then now s → StopIs Reaches Reads before now s
    a_fails then p s hp same h =
        past_file files Reads before now base AfterBase p (Err s) hp
        (file_fails files Reads before now a (λ fs q d. AffectedPoints base p a q d) s (inr (spelled files base p hp, inl refl)) (fails_from files a before then now s same h))

    pub decided : (p q : Tree) (result : Result Report Stop) → FileOf files base p → FileOf files a q → now ≡ before → Merges (AffectedPoints base p a q) result
        → Decides Reaches Reads before now result
    decided p q result hp hq same h =
        past_file files Reads before now base AfterBase p result hp (past_last_file files Reads before now a (AffectedPoints base p a) q result hq same h)

-- a graph that is not made decides
module _ (base a : Text) (p q : Tree) where
  pub base_graph_fails : (s : Stop) → FailsGraph base p s → Merges (AffectedPoints base p a q) (Err s)
  base_graph_fails (stop.Refused message) h = inl (h.0, ap refuses h.1)
  base_graph_fails (stop.ReadFault message) h = absurd h
  base_graph_fails stop.Memory h = tt

  pub a_graph_fails : (HasTooManyEdges p → ⊥) → (s : Stop) → FailsGraph a q s → Merges (AffectedPoints base p a q) (Err s)
  a_graph_fails few (stop.Refused message) h = inr (few, inl (h.0, ap refuses h.1))
  a_graph_fails few (stop.ReadFault message) h = absurd h
  a_graph_fails few stop.Memory h = tt

-- the points by their numbers are the points
module _ (g h : Numbered) (numbers : List ℕ) (exact : AreNumbersOf h (IsAffected (graph_in h) (graph_in g)) numbers) where
  points_same : (v : Vertex) → IsOneOf h numbers v ↔ IsAffected (graph_in h) (graph_in g) v
  points_same v = (
    λ (at, one, is). (exact.exact at v is).0 one,
    λ k. (let (at, is) = place_of h.vertices v k.0 in (at, (exact.exact at v is).1 k, is)),
  )

  pub numbers_text : (bytes : List ℕ) → IsAffectedText (IsOneOf h numbers) bytes → IsAffectedText (IsAffected (graph_in h) (graph_in g)) bytes
  numbers_text bytes text = affected_text_same (IsOneOf h numbers) (IsAffected (graph_in h) (graph_in g)) bytes points_same text

-- the points of the graphs that were made are those of the programs
module _ (p q : Tree) (g h : Numbered) (base_same : Same (graph_in g) (graph_of p)) (a_same : Same (graph_in h) (graph_of q)) where
  graphs_same : (v : Vertex) → IsAffected (graph_in h) (graph_in g) v ↔ IsAffected (graph_of q) (graph_of p) v
  graphs_same v = (
    affected_same (graph_in h) (graph_of q) (graph_in g) (graph_of p) a_same base_same v,
    affected_same (graph_of q) (graph_in h) (graph_of p) (graph_in g) (same_turned (graph_in h) (graph_of q) a_same)
        (same_turned (graph_in g) (graph_of p) base_same) v,
  )

  pub affected_points : (base a : Text) (bytes : List ℕ) → (HasTooManyEdges p → ⊥) → (HasTooManyEdges q → ⊥)
      → IsAffectedText (IsAffected (graph_in h) (graph_in g)) bytes → AffectedPoints base p a q (prints Done bytes)
  affected_points base a bytes few few_too text =
      inr (few, inr (few_too, (bytes, affected_text_same (IsAffected (graph_in h) (graph_in g)) (IsAffected (graph_of q) (graph_of p)) bytes graphs_same text, refl)))
