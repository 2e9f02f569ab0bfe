-- What reading the files of a list of programs comes to.
--
-- AreAllFilesOf files named ps            == each of the files spells the program that stands in its place,
--                                            and there are no more programs
-- IsRefusedByAll files named r            == r is the refusal of the first of the files that spells no
--                                            program
-- ReadsAll files named before now result  == the programs that they spell; or a file is refused; or a read
--                                            failed, or memory ran out
use Rattle.std.specs.Prelude.{◌≡◌, ℕ, List, [], ◌∷◌, Option, Vec, Result, Ok, Err}
use Rattle.std.specs.Global.{Global}
use Rattle.hpr_io.specs.Files.{Files, bytes_of}
use Rattle.hpr_syntax.specs.Tree.{Tree}
use Rattle.hpr_refusals.specs.Refusals.{IsFileOf}
use Rattle.hpr_inputs.specs.Answer.{StopIs}
use Rattle.hpr_inputs.specs.Decision.{Decision}
use Rattle.hpr_inputs.specs.Files.{OnAllFiles}
use Rattle.hpr_inputs.specs.Reads.{IfTold, IsReached}
use Rattle.hpr_inputs.specs.declared.answer.Stop.{Stop}

abbrev pub AreAllFilesOf : Files → List (List ℕ) → List Tree → Type 0
AreAllFilesOf files [] [] = Unit {0}
AreAllFilesOf files (file ∷ named) (p ∷ ps) = IsFileOf (bytes_of files file) p × AreAllFilesOf files named ps
AreAllFilesOf files _ _ = ⊥

abbrev pub IsRefusedByAll : Files → List (List ℕ) → Decision → Type 0
IsRefusedByAll files named r = OnAllFiles files named (λ ps. ⊥) r

abbrev pub ReadsAll : Option Files → List (List ℕ) → ℕ → ℕ → Result (Vec Tree Global) Stop → Type 0
ReadsAll files named before now (Ok v) = IfTold files (λ fs. AreAllFilesOf fs named v.items) × (now ≡ before)
ReadsAll files named before now (Err s) = StopIs (λ r. IfTold files (λ fs. IsRefusedByAll fs named r)) (IsReached files named) before now s
