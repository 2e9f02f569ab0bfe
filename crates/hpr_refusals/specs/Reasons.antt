-- What is said of what is refused.
--
-- shape_text error            == of a tree that fails this test
-- reason refusal              == of a file
-- about file text             == the message with this text, on the file or the word with this name
-- refusal_text file refusal   == the message on the file with this name
-- command_reason why          == of a command of a script
-- command_text script k why   == the message on the command with this number, where the script has this name
use Rattle.std.specs.Prelude.{ℕ, List, [], ◌++◌, codes}
use Rattle.std.specs.Fmt.{decimal}
use Rattle.hpr_terms.specs.declared.limits.TheConstants.{MAX_FILE, MAX_LEVELS, MAX_OPERATORS, MAX_PARTS}
use Rattle.hpr_terms.specs.Texts.{tag_text}
use Rattle.hpr_syntax.specs.declared.shape.ShapeError.{ShapeError}
use Rattle.hpr_syntax.specs.declared.shape.ShapeError.TheVariants as shape
use Rattle.hpr_edit.specs.declared.command.EditError.{EditError}
use Rattle.hpr_edit.specs.declared.command.EditError.TheVariants as edit
use Rattle.hpr_refusals.specs.declared.files.Refusal.{Refusal}
use Rattle.hpr_refusals.specs.declared.files.Refusal.TheVariants as refusal

-- no tree fails by want of memory
abbrev pub shape_text : ShapeError → List ℕ
shape_text (shape.DuplicateTag t) = codes "tag " ++ tag_text t ++ codes " stands twice"
shape_text (shape.Unissued t) = codes "tag " ++ tag_text t ++ codes " was not issued"
shape_text (shape.TooDeep t) = codes "part " ++ tag_text t ++ (codes " is nested deeper than " ++ decimal MAX_LEVELS)
shape_text (shape.ExprTooLarge t) = codes "expression of " ++ tag_text t ++ (codes " has more than " ++ decimal MAX_OPERATORS ++ codes " operators")
shape_text (shape.WrongName t) = codes "part " ++ tag_text t ++ codes " has a wrong name"
shape_text (shape.TooManyParts n) = decimal n ++ codes " parts, more than " ++ decimal MAX_PARTS
shape_text (shape.DuplicateFinal x) = codes "end names " ++ x ++ codes " twice"
shape_text shape.Memory = []

abbrev pub reason : Refusal → List ℕ
reason refusal.Longer = codes "longer than " ++ decimal MAX_FILE ++ codes " bytes"
reason (refusal.Syntax place) = codes "syntax at byte " ++ decimal place
reason (refusal.Shape error) = shape_text error

abbrev pub about : List ℕ → List ℕ → List ℕ
about file text = codes "hpr: " ++ file ++ codes ": " ++ text ++ codes "\n"

abbrev pub refusal_text : List ℕ → Refusal → List ℕ
refusal_text file why = about file (reason why)

-- no command is refused for want of memory, where there is enough
abbrev pub command_reason : EditError → List ℕ
command_reason (edit.NoTag t) = codes "no part " ++ tag_text t
command_reason (edit.IntoItself t) = codes "part " ++ tag_text t ++ codes " would stand in itself"
command_reason edit.NoPlace = codes "no such place"
command_reason (edit.KindDiffers t) = codes "part " ++ tag_text t ++ codes " is of another kind"
command_reason edit.SerialsSpent = codes "serials are spent"
command_reason (edit.Shape error) = shape_text error
command_reason edit.Memory = []

abbrev pub command_text : List ℕ → ℕ → EditError → List ℕ
command_text script k why = about script (codes "command " ++ decimal k ++ codes ": " ++ command_reason why)
