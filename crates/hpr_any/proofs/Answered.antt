-- What a call answers keeps the meaning, whatever the parts mean.
use Rattle.std.proofs.Common.{◌≡◌, ◌↔◌, ℕ, List, Result, IfOk, length}
use Rattle.std.proofs.lemmas.Result.{IfOk-weaker}
use Rattle.std.specs.List.{AllByRecursion}
use Rattle.hpr_syntax.specs.Shape.{IsProgram}
use Rattle.hpr_syntax.specs.Tree.{Tree}
use Rattle.hpr_graph.specs.Answer.{graphs_of, printed, IsAnswer, IsAnswerBy}
use Rattle.hpr_graph.specs.Graphs.{Graph}
use Rattle.hpr_graph.specs.declared.edge.Edge.{Edge}
use Rattle.hpr_graph.specs.declared.vertex.Vertex.{Vertex}
use Rattle.hpr_verify.specs.declared.verdict.Verdict.{Verdict}
use Rattle.hpr_verify.specs.declared.verdict.Verdict.TheVariants.{Same}
use Rattle.hpr_verify.specs.Verdict.{HasSearchedGraph}
use Rattle.hpr_prune.specs.KeptLaw.{IsSliceOf}
use Rattle.hpr_prune.specs.Programs.{IsPruned}
use Rattle.hpr_meaning.specs.Any.Kept.{Keeps}
use Rattle.hpr_meaning.specs.Any.KeptLaw.{KeepsAll}
use Rattle.hpr_any.specs.MeaningOf.{MeaningOf, by_reads}
use Rattle.hpr_prune.specs.Any.KeptLaw.{DoesItsPart}
use Rattle.hpr_any.proofs.ByReads.{by_reads_lawful}
use Rattle.hpr_merge.proofs.NoneListed.{triples_tell}
use Rattle.hpr_engine.proofs.AnyPrintedKeeps.{printed_keeps, printed_keeps_by, split_kept_two}
use Rattle.hpr_prune.proofs.Sliced.{listed_part}

module _ (V F : Type 0) {E : Type 0} where
  pub integrated : (base a b : Tree) (tries : ℕ) → IsProgram base → IsProgram a → IsProgram b → (r : Result Tree E)
      → IfOk r (λ p. IsAnswer base a b tries (printed p)) → IfOk r (λ p. (m : MeaningOf V F) → Keeps (by_reads m) base a b p)
  integrated base a b tries is is_a is_b r answers =
      IfOk-weaker r (λ p. IsAnswer base a b tries (printed p)) (λ p. (m : MeaningOf V F) → Keeps (by_reads m) base a b p)
      (λ p answer m. printed_keeps (by_reads m) (by_reads_lawful m) base a b tries p is is_a is_b answer) answers

  pub all_integrated : (base : Tree) (vs : List Tree) (tries : ℕ) → IsProgram base → AllByRecursion IsProgram vs → (r : Result Tree E)
      → IfOk r (λ p. IsAnswerBy {X = ℕ × Vertex × Edge} (λ t. t) base vs tries (printed p)) → IfOk r (λ p. (m : MeaningOf V F) → KeepsAll (by_reads m) base vs p)
  all_integrated base vs tries is all r answers =
      IfOk-weaker r (λ p. IsAnswerBy {X = ℕ × Vertex × Edge} (λ t. t) base vs tries (printed p)) (λ p. (m : MeaningOf V F) → KeepsAll (by_reads m) base vs p)
      (λ p answer m. printed_keeps_by (by_reads m) (by_reads_lawful m) (λ t. t) base vs (triples_tell (length (graphs_of vs))) tries p is all answer) answers

  pub judged : (base a b offered : Tree) → IsProgram base → IsProgram a → IsProgram b → IsProgram offered → (r : Result Verdict E)
      → IfOk r (λ v. (v ≡ Same) ↔ HasSearchedGraph base a b offered) → IfOk r (λ v. v ≡ Same → (m : MeaningOf V F) → Keeps (by_reads m) base a b offered)
  judged base a b offered is is_a is_b is_o r verdicts =
      IfOk-weaker r (λ v. (v ≡ Same) ↔ HasSearchedGraph base a b offered) (λ v. v ≡ Same → (m : MeaningOf V F) → Keeps (by_reads m) base a b offered)
      (λ v exactly same m. let (free, (rs, split, fits)) = exactly.0 same in split_kept_two (by_reads m) (by_reads_lawful m) base a b offered rs is is_a is_b is_o free split fits)
      verdicts

  pub left : (p : Tree) (slice : Graph) → IsProgram p → (r : Result Tree E) → IfOk r (λ q. IsPruned slice.vertex p q)
      → IfOk r (λ q. IsSliceOf p slice → (m : MeaningOf V F) → DoesItsPart (by_reads m) p q slice)
  left p slice is r prunes =
      IfOk-weaker r (λ q. IsPruned slice.vertex p q) (λ q. IsSliceOf p slice → (m : MeaningOf V F) → DoesItsPart (by_reads m) p q slice)
      (λ q pruned sliced m. listed_part p q slice is sliced pruned (by_reads m) (by_reads_lawful m)) prunes
