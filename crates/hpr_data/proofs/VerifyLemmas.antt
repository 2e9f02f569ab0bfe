-- What comes of a verdict on the last of four programs.
use Rattle.std.proofs.Common.{◌≡◌, ℕ, zero, suc, ◌<◌, List, [], ◌∷◌, get_or, length, refl, sym, subst, arith, Err}
use Rattle.hpr_syntax.specs.Tree.{Tree}
use Rattle.hpr_engine.specs.Limit.{AreAllInLimit, IsFirstTooLargeOf}
use Rattle.hpr_verify.specs.declared.error.VerifyError.{VerifyError}
use Rattle.hpr_verify.specs.declared.error.VerifyError.TheVariants.{TooManyEdges}
use Rattle.hpr_verify.specs.declared.verdict.Verdict.{Verdict}
use Rattle.hpr_verify.specs.Refusals.{IfTooManyEdges}
use Rattle.hpr_verify.specs.Verdict.{IsVerdict}
use Rattle.hpr_words.specs.Request.{Text}
use Rattle.hpr_data.specs.Findings.{IsJudgedOf, Verified, judged, too_large}
use Rattle.hpr_data.proofs.ManyLemmas.{first_too_large, within_all}

-- a list of four, item by item
pub four : (ps : List Tree) (p q s o : Tree) → length ps ≡ 4 → p ≡ get_or ps 0 p → q ≡ get_or ps 1 q → s ≡ get_or ps 2 s → o ≡ get_or ps 3 o → ps ≡ p ∷ q ∷ s ∷ o ∷ []
four [] p q s o count e f g h = absurd (omega (arith, count))
four (a ∷ []) p q s o count e f g h = absurd (omega (arith, count))
four (a ∷ b ∷ []) p q s o count e f g h = absurd (omega (arith, count))
four (a ∷ b ∷ c ∷ []) p q s o count e f g h = absurd (omega (arith, count))
four (a ∷ b ∷ c ∷ d ∷ []) p q s o count e f g h = λ k. sym e k ∷ sym f k ∷ sym g k ∷ sym h k ∷ []
four (a ∷ b ∷ c ∷ d ∷ x ∷ rest) p q s o count e f g h = absurd (omega (arith, count))

-- the first that is too large is one of the programs
pub first_within : (ps : List Tree) (n : ℕ) → IsFirstTooLargeOf ps n → n < length ps
first_within [] n h = absurd h
first_within (p ∷ ps) zero h = omega arith
first_within (p ∷ ps) (suc n) h = let less = first_within ps n h.1 in omega (arith, less)

-- the number of the program that is named
pub numbered : (P : ℕ → Type 0) (e : VerifyError) (n : ℕ) → e ≡ TooManyEdges n → IfTooManyEdges {X = Verdict} (Err e) P → P n
numbered P e n is h = subst (λ (x : VerifyError). IfTooManyEdges {X = Verdict} (Err x) P) is h

module _ (names : List Text) (ps : List Tree) (p q s o : Tree) (are : ps ≡ p ∷ q ∷ s ∷ o ∷ []) where
  pub verdict_found : (v : Verdict) → AreAllInLimit (p ∷ q ∷ s ∷ o ∷ []) → IsVerdict p q s o v → Verified names ps (judged v)
  verdict_found v few is =
      subst (λ (qs : List Tree). Verified names qs (judged v)) (sym are)
      (within_all names (p ∷ q ∷ s ∷ o ∷ []) (IsJudgedOf (p ∷ q ∷ s ∷ o ∷ []) (judged v)) (judged v) few (v, is, refl))

  -- where a graph is too large
  pub large_found : length names ≡ 4 → (n : ℕ) (file : Text) → IsFirstTooLargeOf (p ∷ q ∷ s ∷ o ∷ []) n → file ≡ get_or names n file → Verified names ps (too_large file)
  large_found count n file many named =
      subst (λ (qs : List Tree). Verified names qs (too_large file)) (sym are)
      (first_too_large (IsJudgedOf (p ∷ q ∷ s ∷ o ∷ []) (too_large file)) file file names (p ∷ q ∷ s ∷ o ∷ []) (sym count) n many named)
