-- What reading the files of a base and its two variants comes to.
--
-- AreFilesOf files base a b v            == the three files spell these programs
-- IsRefusedByFiles files base a b r      == r is the refusal of the first of the three files that spells no
--                                           program
-- ReadsFiles files base a b before now result == the programs that they spell; or a file is refused; or a
--                                                read failed, or memory ran out
use Rattle.std.specs.Prelude.{◌≡◌, ℕ, List, [], ◌∷◌, Option, Result, Ok, Err}
use Rattle.hpr_io.specs.Files.{Files, bytes_of}
use Rattle.hpr_inputs.specs.Answer.{StopIs}
use Rattle.hpr_inputs.specs.Decision.{Decision}
use Rattle.hpr_inputs.specs.Reads.{IfTold, IsReached}
use Rattle.hpr_inputs.specs.Files.{OnFiles}
use Rattle.hpr_refusals.specs.Refusals.{IsFileOf}
use Rattle.hpr_inputs.specs.declared.answer.Stop.{Stop}
use Rattle.hpr_inputs.specs.declared.versions.Versions.{Versions}

abbrev pub AreFilesOf : Files → List ℕ → List ℕ → List ℕ → Versions → Type 0
AreFilesOf files base a b v = IsFileOf (bytes_of files base) v.base × IsFileOf (bytes_of files a) v.a × IsFileOf (bytes_of files b) v.b

abbrev pub IsRefusedByFiles : Files → List ℕ → List ℕ → List ℕ → Decision → Type 0
IsRefusedByFiles files base a b r = OnFiles files base a b (λ p q s. ⊥) r

abbrev pub ReadsFiles : Option Files → List ℕ → List ℕ → List ℕ → ℕ → ℕ → Result Versions Stop → Type 0
ReadsFiles files base a b before now (Ok v) = IfTold files (λ fs. AreFilesOf fs base a b v) × (now ≡ before)
ReadsFiles files base a b before now (Err s) =
    StopIs (λ r. IfTold files (λ fs. IsRefusedByFiles fs base a b r)) (IsReached files (base ∷ a ∷ b ∷ [])) before now s
