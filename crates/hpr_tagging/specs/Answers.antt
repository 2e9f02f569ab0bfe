-- What the reader of texts without some tags answers.
--
-- IfSyntax result P           == P of the place, where the answer is a place
-- IfShape result P            == P of the refusal, where the answer is a refusal of a tree's shape
-- Suffice result n            == n is at most the greatest serial, unless the answer is that serials don't
--                                suffice: then it is above
-- IsRefusedAt a bytes cs n    == the bytes with the changes spell no tree: their longest front that further
--                                bytes complete to such a text ends where the byte n of the bytes stands
use Rattle.std.specs.Prelude.{◌≡◌, ℕ, ◌<◌, ◌≤◌, min, List, length, Result, Ok, Err}
use Rattle.hpr_terms.specs.declared.limits.TheConstants.{TAG_NUMBERS}
use Rattle.hpr_syntax.specs.declared.shape.ShapeError.{ShapeError}
use Rattle.hpr_syntax.specs.Grammar.{tagged}
use Rattle.hpr_scan.specs.Place.{IsPlace}
use Rattle.hpr_text.specs.Answers.{IsText}
use Rattle.hpr_tagging.specs.declared.changes.Change.{Change}
use Rattle.hpr_tagging.specs.declared.reader.TaggingError.{TaggingError}
use Rattle.hpr_tagging.specs.declared.reader.TaggingError.TheVariants.{Syntax, Shape, SerialsSpent, Memory}
use Rattle.hpr_tagging.specs.Tagging.{changed, place_back}

abbrev pub IfSyntax : {A : Type 0} → Result A TaggingError → (ℕ → Type 0) → Type 0
IfSyntax (Ok a) P = Unit {0}
IfSyntax (Err (Syntax n)) P = P n
IfSyntax (Err (Shape e)) P = Unit {0}
IfSyntax (Err SerialsSpent) P = Unit {0}
IfSyntax (Err Memory) P = Unit {0}

abbrev pub IfShape : {A : Type 0} → Result A TaggingError → (ShapeError → Type 0) → Type 0
IfShape (Ok a) P = Unit {0}
IfShape (Err (Syntax n)) P = Unit {0}
IfShape (Err (Shape e)) P = P e
IfShape (Err SerialsSpent) P = Unit {0}
IfShape (Err Memory) P = Unit {0}

abbrev pub Suffice : {A : Type 0} → Result A TaggingError → ℕ → Type 0
Suffice (Ok a) n = n < TAG_NUMBERS
Suffice (Err (Syntax k)) n = n < TAG_NUMBERS
Suffice (Err (Shape e)) n = n < TAG_NUMBERS
Suffice (Err SerialsSpent) n = TAG_NUMBERS ≤ n
Suffice (Err Memory) n = Unit {0}

pub record IsRefusedAt (a : ℕ) (bytes : List ℕ) (cs : List Change) (n : ℕ) : Type 0 where
  pub place : ℕ
  pub refused : IsPlace (IsText tagged) (changed a bytes 0 cs) place
  pub stands : n ≡ min (place_back a 0 cs place) (length bytes)
