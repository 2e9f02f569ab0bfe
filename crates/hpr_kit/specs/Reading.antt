-- What is read of files.
--
-- read files file              == what is read of a file: its bytes; of one that is too long the first of
--                                 them, one more than the limit
-- OnProgram file bytes next a  == a refuses the bytes of this file; or they spell a program, and a is what
--                                 next says of it
use Rattle.std.specs.Prelude.{◌≡◌, ◌⊎◌, ℕ, ◌+◌, List, take}
use Rattle.hpr_io.specs.Files.{Files, bytes_of}
use Rattle.hpr_terms.specs.declared.limits.TheConstants.{MAX_FILE}
use Rattle.hpr_syntax.specs.Grammar.{tagged}
use Rattle.hpr_syntax.specs.Tree.{Tree}
use Rattle.hpr_refusals.specs.Refusals.{IsCauseIn, IsFileOf}
use Rattle.hpr_refusals.specs.declared.files.Refusal.{Refusal}
use Rattle.hpr_words.specs.Request.{Text}
use Rattle.hpr_kit.specs.Answer.{Answer, refused_text, refuses}

abbrev pub read : Files → Text → List ℕ
read files file = take (MAX_FILE + 1) (bytes_of files file)

abbrev pub OnProgram : Text → List ℕ → (Tree → Type 0) → Answer → Type 0
OnProgram file bytes next a =
    ((why : Refusal) × IsCauseIn tagged bytes why × (a ≡ refuses (refused_text file bytes why)))
    ⊎ ((p : Tree) × IsFileOf bytes p × next p)
