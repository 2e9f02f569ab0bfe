-- Which of several files are read.
--
-- IfTold told P            == P of the files, for whatever files the shelf tells
-- SpellsProgram told file  == this file is of an accepted length and spells a program
-- IsReached told names file == the file is one of these, and each one that stands before it spells a program
use Rattle.std.specs.Prelude.{◌≡◌, ◌⊎◌, ℕ, List, [], ◌∷◌, Option, Some}
use Rattle.hpr_io.specs.Files.{Files, bytes_of}
use Rattle.hpr_syntax.specs.Tree.{Tree}
use Rattle.hpr_refusals.specs.Refusals.{IsFileOf}

abbrev pub IfTold : Option Files → (Files → Type 0) → Type 0
IfTold told P = (files : Files) → told ≡ Some files → P files

abbrev pub SpellsProgram : Option Files → List ℕ → Type 0
SpellsProgram told file = IfTold told (λ files. (p : Tree) × IsFileOf (bytes_of files file) p)

abbrev pub IsReached : Option Files → List (List ℕ) → List ℕ → Type 0
IsReached told [] file = ⊥
IsReached told (named ∷ behind) file = (file ≡ named) ⊎ (SpellsProgram told named × IsReached told behind file)
