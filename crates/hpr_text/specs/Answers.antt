-- What the reader of programs answers.
--
-- IsText form bytes        == the bytes spell some tree in this form
-- IsMisshapen form bytes e == they spell a tree whose shape is the refusal e
-- IfSyntax result P        == P of the place, where the answer is a place
-- IfShape result P         == P of the refusal, where the answer is a refusal of a tree's shape
-- ComesFromText e          == e is none of the refusals that no tree of a text has: too deep, too large, a
--                             wrong name, and want of memory
use Rattle.std.specs.Prelude.{◌≡◌, ℕ, List, Some, Result, Ok, Err}
use Rattle.hpr_syntax.specs.declared.shape.ShapeError.{ShapeError}
use Rattle.hpr_syntax.specs.declared.shape.ShapeError.TheVariants as shape_error
use Rattle.hpr_syntax.specs.Grammar.{Form}
use Rattle.hpr_syntax.specs.Shape.{shape}
use Rattle.hpr_syntax.specs.Spelling.{Spells}
use Rattle.hpr_syntax.specs.Tree.{Tree}
use Rattle.hpr_text.specs.declared.reader.TextError.{TextError}
use Rattle.hpr_text.specs.declared.reader.TextError.TheVariants.{Syntax, Shape, Memory}

abbrev pub IsText : Form → List ℕ → Type 0
IsText form bytes = (t : Tree) × Spells form bytes t

abbrev pub IsMisshapen : Form → List ℕ → ShapeError → Type 0
IsMisshapen form bytes e = (t : Tree) × Spells form bytes t × (shape t ≡ Some e)

abbrev pub IfSyntax : {A : Type 0} → Result A TextError → (ℕ → Type 0) → Type 0
IfSyntax (Ok a) P = Unit {0}
IfSyntax (Err (Syntax n)) P = P n
IfSyntax (Err (Shape e)) P = Unit {0}
IfSyntax (Err Memory) P = Unit {0}

abbrev pub IfShape : {A : Type 0} → Result A TextError → (ShapeError → Type 0) → Type 0
IfShape (Ok a) P = Unit {0}
IfShape (Err (Syntax n)) P = Unit {0}
IfShape (Err (Shape e)) P = P e
IfShape (Err Memory) P = Unit {0}

abbrev pub ComesFromText : ShapeError → Type 0
ComesFromText (shape_error.DuplicateTag t) = Unit {0}
ComesFromText (shape_error.Unissued t) = Unit {0}
ComesFromText (shape_error.TooManyParts n) = Unit {0}
ComesFromText (shape_error.DuplicateFinal x) = Unit {0}
ComesFromText (shape_error.TooDeep t) = ⊥
ComesFromText (shape_error.ExprTooLarge t) = ⊥
ComesFromText (shape_error.WrongName t) = ⊥
ComesFromText shape_error.Memory = ⊥
