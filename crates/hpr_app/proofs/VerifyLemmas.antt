-- What is decided of an offered program.
use Rattle.std.proofs.Common.{◌≡◌, ℕ, zero, suc, ◌<◌, List, [], ◌∷◌, get_or, length, sym, subst, arith, Err, Result, string_bytes}
use Rattle.hpr_syntax.specs.Tree.{Tree}
use Rattle.hpr_engine.specs.Limit.{AreAllInLimit, IsFirstTooLargeOf}
use Rattle.hpr_verify.specs.declared.error.VerifyError.{VerifyError}
use Rattle.hpr_verify.specs.declared.error.VerifyError.TheVariants.{TooManyEdges}
use Rattle.hpr_verify.specs.declared.verdict.Verdict.{Verdict}
use Rattle.hpr_verify.specs.Refusals.{IfTooManyEdges}
use Rattle.hpr_verify.specs.Verdict.{IsVerdict}
use Rattle.hpr_words.specs.Request.{Text, verify}
use Rattle.hpr_inputs.specs.Answer.{Merges}
use Rattle.hpr_inputs.specs.Decision.{Decision, refuses}
use Rattle.hpr_inputs.specs.declared.answer.Report.{Report}
use Rattle.hpr_inputs.specs.declared.answer.Stop.{Stop}
use Rattle.hpr_inputs.specs.declared.answer.Stop.TheVariants as stop
use Rattle.hpr_inputs.proofs.ReadLemmas.{merges_map}
use Rattle.hpr_decisions.specs.Graphs.{too_many_edges}
use Rattle.hpr_decisions.specs.Graphs.{OnAllGraphs}
use Rattle.hpr_decisions.specs.VerifyFiles.{IsVerified, report_verdict}
use Rattle.hpr_decisions.proofs.KindLemmas.{Suits, on_all_graphs, verify_suits}
use Rattle.hpr_decisions.proofs.Unrefused.{within_all}
use Rattle.hpr_app.specs.Private.MakesGraph.{RefusesGraph}
use Rattle.hpr_app.specs.Private.VerifiedOf.{IsVerifiedOf}
use Rattle.hpr_app.proofs.ManyLemmas.{too_large}

-- a list of four, item by item
pub four : (ps : List Tree) (p q s o : Tree) → length ps ≡ 4 → p ≡ get_or ps 0 p → q ≡ get_or ps 1 q → s ≡ get_or ps 2 s → o ≡ get_or ps 3 o → ps ≡ p ∷ q ∷ s ∷ o ∷ []
four [] p q s o count e f g h = absurd (omega (arith, count))
four (a ∷ []) p q s o count e f g h = absurd (omega (arith, count))
four (a ∷ b ∷ []) p q s o count e f g h = absurd (omega (arith, count))
four (a ∷ b ∷ c ∷ []) p q s o count e f g h = absurd (omega (arith, count))
four (a ∷ b ∷ c ∷ d ∷ []) p q s o count e f g h = λ k. sym e k ∷ sym f k ∷ sym g k ∷ sym h k ∷ []
four (a ∷ b ∷ c ∷ d ∷ x ∷ rest) p q s o count e f g h = absurd (omega (arith, count))

-- the first that is too large is one of the programs
pub first_within : (ps : List Tree) (n : ℕ) → IsFirstTooLargeOf ps n → n < length ps
first_within [] n h = absurd h
first_within (p ∷ ps) zero h = omega arith
first_within (p ∷ ps) (suc n) h = let less = first_within ps n h.1 in omega (arith, less)

-- the number of the program that is named
pub numbered : (P : ℕ → Type 0) (e : VerifyError) (n : ℕ) → e ≡ TooManyEdges n → IfTooManyEdges {X = Verdict} (Err e) P → P n
numbered P e n is h = subst (λ (x : VerifyError). IfTooManyEdges {X = Verdict} (Err x) P) is h

module _ (names : List Text) (ps : List Tree) (p q s o : Tree) (are : ps ≡ p ∷ q ∷ s ∷ o ∷ []) where
  of_four : (d : Decision) → OnAllGraphs names (p ∷ q ∷ s ∷ o ∷ []) (IsVerified p q s o d) d → IsVerifiedOf names ps d
  of_four d h = subst (λ (qs : List Tree). IsVerifiedOf names qs d) (sym are) h

  pub verdict_merges : (v : Verdict) (result : Result Report Stop) → AreAllInLimit (p ∷ q ∷ s ∷ o ∷ []) → IsVerdict p q s o v → Merges (λ r. r ≡ report_verdict v) result
      → Merges (IsVerifiedOf names ps) result
  verdict_merges v result few judged h =
      merges_map (λ r. r ≡ report_verdict v) (IsVerifiedOf names ps)
      (λ d is. of_four d (within_all names (p ∷ q ∷ s ∷ o ∷ []) (IsVerified p q s o d) d few (v, judged, is))) result h

  -- where a graph is too large
  pub large_merges : length names ≡ 4 → (n : ℕ) (file : Text) (t : Stop) → IsFirstTooLargeOf (p ∷ q ∷ s ∷ o ∷ []) n → file ≡ get_or names n file → RefusesGraph file t → Merges (IsVerifiedOf names ps) (Err t)
  large_merges count n file (stop.Refused message) many named is =
      of_four (refuses (string_bytes message))
      (too_large (IsVerified p q s o (refuses (string_bytes message))) (refuses (string_bytes message)) file names (p ∷ q ∷ s ∷ o ∷ []) (sym count) n many
      (subst (λ (f : Text). refuses (string_bytes message) ≡ refuses (too_many_edges f)) named (λ k. refuses (is k))))
  large_merges count n file (stop.ReadFault message) many named is = absurd is
  large_merges count n file stop.Memory many named is = tt

-- a verdict is of a kind of `verify`
pub verified_suits : (base a b offered : Text) (names : List Text) (ps : List Tree) (d : Decision) → IsVerifiedOf names ps d → Suits (verify base a b offered) d
verified_suits base a b offered names [] d h = absurd h
verified_suits base a b offered names (p ∷ []) d h = absurd h
verified_suits base a b offered names (p ∷ q ∷ []) d h = absurd h
verified_suits base a b offered names (p ∷ q ∷ s ∷ []) d h = absurd h
verified_suits base a b offered names (p ∷ q ∷ s ∷ o ∷ []) d h =
    on_all_graphs (verify base a b offered) d names (p ∷ q ∷ s ∷ o ∷ []) (IsVerified p q s o d) (verify_suits base a b offered p q s o d) h
verified_suits base a b offered names (p ∷ q ∷ s ∷ o ∷ x ∷ rest) d h = absurd h
