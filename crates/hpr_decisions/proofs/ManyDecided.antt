-- What is decided of base's file and those of its variants, and of the files of an offered program.
use Rattle.std.proofs.Common.{◌≡◌, ℕ, List, [], ◌∷◌, inr}
use Rattle.hpr_io.specs.Files.{Files, bytes_of}
use Rattle.hpr_syntax.specs.Tree.{Tree}
use Rattle.hpr_graph.specs.declared.edge.Edge.{Edge}
use Rattle.hpr_graph.specs.declared.vertex.Vertex.{Vertex}
use Rattle.hpr_graph.specs.Answer.{AnswerBy, IsAnswerBy}
use Rattle.hpr_engine.specs.Limit.{AreAllInLimit}
use Rattle.hpr_refusals.specs.Refusals.{IsFileOf}
use Rattle.hpr_words.specs.Request.{Text}
use Rattle.hpr_inputs.specs.Decision.{Decision}
use Rattle.hpr_inputs.specs.Files.{OnFile, OnAllFiles}
use Rattle.hpr_inputs.specs.ReadsAll.{AreAllFilesOf}
use Rattle.hpr_inputs.proofs.AllFiles.{spelled_all}
use Rattle.hpr_inputs.proofs.SpelledFiles.{of_all_programs, of_program, of_programs}
use Rattle.hpr_decisions.specs.Graphs.{OnAllGraphs}
use Rattle.hpr_decisions.specs.Integrate.{report_by, IntegratedBy, IsReportedBy, OutcomeBy}
use Rattle.hpr_decisions.specs.VerifyFiles.{IsVerified, VerifyOutcome}
use Rattle.hpr_decisions.proofs.Unrefused.{of_all_graphs, within_all}

module _ {X : Type 0} (at : X → ℕ × Vertex × Edge) (say : List X → List ℕ) (fs : Files) (base : Text) (names : List Text) (tries : ℕ) (d : Decision) (p : Tree) (ps : List Tree) where
  -- where they spell programs whose graphs are within the limit, an answer is reported
  pub of_many : OutcomeBy at say fs base names tries d → IsFileOf (bytes_of fs base) p → AreAllFilesOf fs names ps → AreAllInLimit (p ∷ ps) → IsReportedBy at say p ps tries d
  of_many o is are few =
      let on_variants = of_program fs base (λ p. OnAllFiles fs names (λ ps. IntegratedBy at say base p names ps tries d) d) d p o is in
      let on_graphs = of_all_programs fs names (λ ps. IntegratedBy at say base p names ps tries d) d ps on_variants are in
      of_all_graphs (base ∷ names) (p ∷ ps) (IsReportedBy at say p ps tries d) d few on_graphs

  -- and what reports one is decided
  pub many_decided : (x : AnswerBy X) → IsFileOf (bytes_of fs base) p → AreAllFilesOf fs names ps → AreAllInLimit (p ∷ ps) → IsAnswerBy at p ps tries x → d ≡ report_by say tries x
      → OutcomeBy at say fs base names tries d
  many_decided x is are few answer shown =
      inr (
        p,
        is,
        spelled_all fs names ps (λ ps. IntegratedBy at say base p names ps tries d) d are
            (within_all (base ∷ names) (p ∷ ps) (IsReportedBy at say p ps tries d) d few (x, answer, shown)),
      )

-- the same of the four files of an offered program
pub of_verified : (fs : Files) (base a b m : Text) (d : Decision) (p q r o : Tree) → VerifyOutcome fs base a b m d → IsFileOf (bytes_of fs base) p → IsFileOf (bytes_of fs a) q → IsFileOf (bytes_of fs b) r
    → IsFileOf (bytes_of fs m) o → AreAllInLimit (p ∷ q ∷ r ∷ o ∷ []) → IsVerified p q r o d
of_verified fs base a b m d p q r o outcome hp hq hr ho few =
    let Judged : Tree → Tree → Tree → Tree → Type 0 = λ p q r o. OnAllGraphs (base ∷ a ∷ b ∷ m ∷ []) (p ∷ q ∷ r ∷ o ∷ []) (IsVerified p q r o d) d in
    let on_m = of_programs fs base a b (λ p q r. OnFile fs m (λ o. Judged p q r o) d) d p q r outcome hp hq hr in
    let on_graphs = of_program fs m (λ o. Judged p q r o) d o on_m ho in
    of_all_graphs (base ∷ a ∷ b ∷ m ∷ []) (p ∷ q ∷ r ∷ o ∷ []) (IsVerified p q r o d) d few on_graphs
