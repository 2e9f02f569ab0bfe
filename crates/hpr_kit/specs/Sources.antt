-- Files that spell programs, with where the parts of these stand.
--
-- IsSource file bytes p s       == s is the file with these bytes, which spell the program p, and where p's
--                                  parts stand in them
-- OnSource files file next a    == a refuses the file; or it spells a program and stands so, and a is what
--                                  next says of both
-- OnSources files names next a  == the same of several files: a refuses the first that spells no program; or
--                                  it is what next says of all programs and of where they stand
use Rattle.std.specs.Prelude.{◌≡◌, ℕ, List, [], ◌∷◌}
use Rattle.hpr_io.specs.Files.{Files}
use Rattle.hpr_syntax.specs.Tree.{Tree}
use Rattle.hpr_words.specs.Request.{Text}
use Rattle.hpr_located.specs.Located.{AreLocated}
use Rattle.hpr_located.specs.Sources.{Standing, standing}
use Rattle.hpr_located.specs.declared.located.Located.{Located}
use Rattle.hpr_kit.specs.Answer.{Answer}
use Rattle.hpr_kit.specs.Reading.{OnProgram, read}

abbrev pub IsSource : Text → List ℕ → Tree → Standing → Type 0
IsSource file bytes p s = (ls : List Located) × AreLocated bytes ls × (s ≡ standing file p ls)

abbrev pub OnSource : Files → Text → (Tree → Standing → Type 0) → Answer → Type 0
OnSource files file next a =
    OnProgram file (read files file) (λ p. (s : Standing) × IsSource file (read files file) p s × next p s) a

abbrev pub OnSources : Files → List Text → (List Tree → List Standing → Type 0) → Answer → Type 0
OnSources files [] next a = next [] []
OnSources files (file ∷ names) next a =
    OnSource files file (λ p s. OnSources files names (λ ps ss. next (p ∷ ps) (s ∷ ss)) a) a
