-- What is decided of an integration of many variants.
use Rattle.std.proofs.Common.{◌≡◌, ℕ, zero, suc, ◌+◌, ◌-◌, ◌≤◌, List, [], ◌∷◌, Contains, get_or, length, map, refl, sym, ap, ◌∙◌, inl, inr, arith, Err, Result, IsErrOf}
use Rattle.hpr_syntax.specs.Tree.{Tree}
use Rattle.hpr_graph.specs.declared.conflict.ManyConflict.{ManyConflict}
use Rattle.hpr_graph.specs.Answer.{interference, no_program, spent}
use Rattle.hpr_graph.specs.Conflicts.{told_many}
use Rattle.hpr_graph.proofs.Lists.{in_here, in_later}
use Rattle.hpr_engine.specs.Limit.{AreAllInLimit, IsFirstTooLargeOf}
use Rattle.hpr_many.specs.Answers.{IfManyInterference, IfManyJudged, IfManyNoProgram, IfManyTooManyEdges}
use Rattle.hpr_many.specs.declared.stop.ManyStop as many
use Rattle.hpr_many.specs.declared.stop.ManyStop.TheVariants.{TooManyEdges, Interference, NoProgram, Spent, Memory}
use Rattle.hpr_report.specs.ConflictsText.{many_conflicts_text}
use Rattle.hpr_words.specs.Request.{Text}
use Rattle.hpr_inputs.specs.Answer.{Merges}
use Rattle.hpr_inputs.specs.Decision.{Decision, prints, refuses}
use Rattle.hpr_inputs.specs.declared.answer.Kind.TheVariants as kind
use Rattle.hpr_inputs.specs.declared.answer.Report.{Report}
use Rattle.hpr_inputs.specs.declared.answer.Stop.{Stop}
use Rattle.hpr_inputs.proofs.ReadLemmas.{merges_map}
use Rattle.hpr_decisions.specs.Graphs.{OnAllGraphs, too_many_edges}
use Rattle.hpr_decisions.specs.IntegrateMany.{IntegratedMany, IsAnswerOfMany, IsReportedOfMany, conflict_of}
use Rattle.hpr_decisions.proofs.Unrefused.{within_all}
use Rattle.hpr_app.specs.Private.ManyStopped.{IsManyStopped}

-- the first graph that is too large refuses its file
pub too_large : (next : Type 0) (d : Decision) (other : Text) (names : List Text) (ps : List Tree) → length ps ≡ length names → (n : ℕ) → IsFirstTooLargeOf ps n
    → d ≡ refuses (too_many_edges (get_or names n other)) → OnAllGraphs names ps next d
too_large next d other names [] count n many e = absurd many
too_large next d other [] (p ∷ ps) count n many e = absurd (omega (arith, count))
too_large next d other (name ∷ names) (p ∷ ps) count zero many e = inl (many, e)
too_large next d other (name ∷ names) (p ∷ ps) count (suc n) (few, many) e = inr (few, too_large next d other names ps (omega (arith, count)) n many e)

-- a conflict is told by its variant's number from 0, and back
told_back : (cs : List ManyConflict) → ((c : ManyConflict) → Contains cs c → 1 ≤ c.variant) → map conflict_of (map told_many cs) ≡ cs
told_back [] from_one = refl
told_back (c ∷ cs) from_one =
    let here : c.variant - 1 + 1 ≡ c.variant = (let one = from_one c (in_here c cs) in omega (arith, one)) in
    let first : conflict_of (told_many c) ≡ c = (λ k. record { variant = here k; point = c.point; edge = c.edge }) in
    ap (λ (d : ManyConflict). d ∷ map conflict_of (map told_many cs)) first ∙ ap (λ (ds : List ManyConflict). c ∷ ds) (told_back cs (λ d there. from_one d (in_later c d cs there)))

module _ (base : Text) (p : Tree) (names : List Text) (ps : List Tree) (count : length ps ≡ length names) (tries : ℕ) where
  abbrev Decided : Decision → Type 0
  Decided = IntegratedMany base p names ps tries

  within : (d : Decision) → AreAllInLimit (p ∷ ps) → IsReportedOfMany p ps tries d → Decided d
  within d few h = within_all (base ∷ names) (p ∷ ps) (IsReportedOfMany p ps tries d) d few h

  stop_decided : (s : many.ManyStop) → IfManyTooManyEdges {X = Tree} (Err s) (IsFirstTooLargeOf (p ∷ ps)) → IfManyJudged {X = Tree} (Err s) (AreAllInLimit (p ∷ ps))
      → IfManyInterference {X = Tree} (Err s) (λ cs. IsAnswerOfMany p ps tries (interference (map told_many cs)))
      → IfManyInterference {X = Tree} (Err s) (λ cs. (c : ManyConflict) → Contains cs c → 1 ≤ c.variant)
      → IfManyNoProgram {X = Tree} (Err s) (λ n. IsAnswerOfMany p ps tries (no_program n))
      → (IsErrOf {T = Tree} (Err s) Spent → IsAnswerOfMany p ps tries spent) → (d : Decision) → IsManyStopped base names tries s d → Decided d
  stop_decided (TooManyEdges n) large few cs numbers none over d is =
      too_large (IsReportedOfMany p ps tries d) d base (base ∷ names) (p ∷ ps) (ap suc count) n large is
  stop_decided (Interference conflicts) large few cs numbers none over d is =
      within d few (interference (map told_many conflicts.items), cs, is ∙ ap (λ (ds : List ManyConflict). prints kind.Interference (many_conflicts_text ds)) (sym (told_back conflicts.items numbers)))
  stop_decided (NoProgram n) large few cs numbers none over d is = within d few (no_program n, none, is)
  stop_decided Spent large few cs numbers none over d is = within d few (spent, over refl, is)
  stop_decided Memory large few cs numbers none over d is = absurd is

  pub many_stop_merges : (s : many.ManyStop) (result : Result Report Stop) → IfManyTooManyEdges {X = Tree} (Err s) (IsFirstTooLargeOf (p ∷ ps))
      → IfManyJudged {X = Tree} (Err s) (AreAllInLimit (p ∷ ps))
      → IfManyInterference {X = Tree} (Err s) (λ cs. IsAnswerOfMany p ps tries (interference (map told_many cs)))
      → IfManyInterference {X = Tree} (Err s) (λ cs. (c : ManyConflict) → Contains cs c → 1 ≤ c.variant)
      → IfManyNoProgram {X = Tree} (Err s) (λ n. IsAnswerOfMany p ps tries (no_program n))
      → (IsErrOf {T = Tree} (Err s) Spent → IsAnswerOfMany p ps tries spent) → Merges (IsManyStopped base names tries s) result → Merges Decided result
  many_stop_merges s result large few cs numbers none over h =
      merges_map (IsManyStopped base names tries s) Decided (λ d is. stop_decided s large few cs numbers none over d is) result h

  pub many_program_merges : (P : Decision → Type 0) (result : Result Report Stop) → AreAllInLimit (p ∷ ps) → ((d : Decision) → P d → IsReportedOfMany p ps tries d)
      → Merges P result → Merges Decided result
  many_program_merges P result few f h = merges_map P Decided (λ d is. within d few (f d is)) result h
