-- The law of covered programs, whatever the contents mean: of a program each of whose parts lies in a slice
-- that it has from one of some programs that end. The versions, and when they cover a program, are those of
-- hpr_meaning/specs/CoverLaw.antt.
--
-- DoesEnd s i == the version is a program that ends from the state s within its steps
use Rattle.hpr_meaning.specs.Any.Meaning.{Meaning}
use Rattle.hpr_syntax.specs.Shape.{IsProgram}
use Rattle.hpr_meaning.specs.Any.Run.{FinalValues}
use Rattle.hpr_meaning.specs.Any.Kept.{Ends}
use Rattle.hpr_meaning.specs.CoverLaw.{Version}

module _ (M : Meaning) where
  abbrev pub DoesEnd : M.State → Version → Type 0
  DoesEnd s i = IsProgram i.0 × ((f : FinalValues M) × Ends M i.0 s i.1 f)
