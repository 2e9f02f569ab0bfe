-- The order of causes where base's file and those of its variants are read.
use Rattle.std.proofs.Common.{◌≡◌, ◌∙◌, ℕ, List, ◌∷◌, refl, subst, inl, inr, Option, Err, Result}
use Rattle.hpr_io.specs.Files.{Files}
use Rattle.hpr_syntax.specs.Tree.{Tree}
use Rattle.hpr_words.specs.Request.{Text}
use Rattle.hpr_inputs.specs.Answer.{Decides, Merges, StopIs}
use Rattle.hpr_inputs.specs.Decision.{Decision}
use Rattle.hpr_inputs.specs.Files.{OnFile, OnAllFiles}
use Rattle.hpr_inputs.specs.Reads.{IfTold, IsReached}
use Rattle.hpr_inputs.specs.ReadsAll.{AreAllFilesOf, IsRefusedByAll}
use Rattle.hpr_inputs.specs.ReadsFile.{Fails}
use Rattle.hpr_inputs.specs.declared.answer.Report.{Report}
use Rattle.hpr_inputs.specs.declared.answer.Stop.{Stop}
use Rattle.hpr_inputs.proofs.AllFiles.{all_fail, past_all}
use Rattle.hpr_inputs.proofs.ReadLemmas.{FileOf, file_fails, past_file, spelled}
use Rattle.hpr_inputs.proofs.VersionLemmas.{decides_other}

-- `next` is what is decided of the programs
module _ (told : Option Files) (base : Text) (names : List Text) (next : Tree → List Tree → Decision → Type 0) (before : ℕ) where
  abbrev Reads : List ℕ → Type 0
  Reads = IsReached told (base ∷ names)

  abbrev After : Files → Tree → Decision → Type 0
  After fs p d = OnAllFiles fs names (λ ps. next p ps d) d

  abbrev Reached : Decision → Type 0
  Reached d = IfTold told (λ fs. OnFile fs base (λ p. After fs p d) d)

  pub base_fails : (now : ℕ) (s : Stop) → Fails told base before now s → Decides Reached Reads before now (Err s)
  base_fails now s h = file_fails told Reads before now base After s (inl refl) h

  module _ (p : Tree) (is : FileOf told base p) (now : ℕ) where
    behind_base : (result : Result Report Stop) → Decides (λ d. IfTold told (λ fs. After fs p d)) (IsReached told names) before now result → Decides Reached Reads before now result
    behind_base result h =
        past_file told Reads before now base After p result is
        (decides_other (λ d. IfTold told (λ fs. After fs p d)) (λ d. IfTold told (λ fs. After fs p d)) (IsReached told names) Reads (λ r x. x)
        (λ file reached. inr (spelled told base p is, reached)) before now result h)

    -- the variants' files, of a shelf that tells the same
    module _ (other : Option Files) (then : ℕ) (same : other ≡ told) (count : then ≡ before) where
      pub variants_fail : (s : Stop) → StopIs (λ r. IfTold other (λ fs. IsRefusedByAll fs names r)) (IsReached other names) then now s → Decides Reached Reads before now (Err s)
      variants_fail s h =
          behind_base (Err s) (all_fail told before now names (next p) s
          (subst (λ n. StopIs (λ r. IfTold told (λ fs. IsRefusedByAll fs names r)) (IsReached told names) n now s) count
          (subst (λ o. StopIs (λ r. IfTold o (λ fs. IsRefusedByAll fs names r)) (IsReached o names) then now s) same h)))

      pub variants_read : (ps : List Tree) (result : Result Report Stop) → IfTold other (λ fs. AreAllFilesOf fs names ps) → now ≡ then → Merges (next p ps) result
          → Decides Reached Reads before now result
      variants_read ps result are kept h =
          behind_base result (past_all told before now names (next p) ps result (subst (λ o. IfTold o (λ fs. AreAllFilesOf fs names ps)) same are) (kept ∙ count) h)
