-- The tests of a tree, cut into steps.
--
-- test_of t                      == the test of what a part says
-- end_refusal n names            == why so many parts or these names of `end` make no program
-- part_refusal n body names      == the same, after the tests of what each part says
-- body_refusal n body names      == the same, after the test of the body's levels
-- tag_refusal issued ts body names == the same, after the tests of these tags
use Rattle.std.specs.Prelude.{ℕ, Bool, List, [], length, Option, option_map}
use Rattle.std.specs.Option.{option_or}
use Rattle.std.specs.Str.{bytes_eq}
use Rattle.hpr_terms.specs.declared.limits.TheConstants.{MAX_LEVELS}
use Rattle.hpr_terms.specs.declared.tag.Tag.{Tag}
use Rattle.hpr_syntax.specs.declared.rows.Content.{Content}
use Rattle.hpr_syntax.specs.declared.shape.PartTest.{PartTest}
use Rattle.hpr_syntax.specs.declared.shape.PartTest.TheVariants.{Large, Wrong}
use Rattle.hpr_syntax.specs.declared.shape.ShapeError.{ShapeError}
use Rattle.hpr_syntax.specs.declared.shape.ShapeError.TheVariants.{DuplicateTag, Unissued, TooDeep, ExprTooLarge, WrongName, DuplicateFinal}
use Rattle.hpr_syntax.specs.Body.{Body}
use Rattle.hpr_syntax.specs.Parts.{same_tag}
use Rattle.hpr_syntax.specs.Issued.{Issued}
use Rattle.hpr_syntax.specs.Shape.{first_repeated, first_unissued, first_deep, says_large, is_wrong, first_where, too_many}

abbrev pub test_of : PartTest → Content → Bool
test_of Large = says_large
test_of Wrong = is_wrong

abbrev pub end_refusal : ℕ → List (List ℕ) → Option ShapeError
end_refusal n names = option_or (too_many n) (option_map DuplicateFinal (first_repeated bytes_eq [] names))

abbrev pub part_refusal : ℕ → Body → List (List ℕ) → Option ShapeError
part_refusal n body names =
    option_or (option_map ExprTooLarge (first_where says_large body))
    (option_or (option_map WrongName (first_where is_wrong body)) (end_refusal n names))

abbrev pub body_refusal : ℕ → Body → List (List ℕ) → Option ShapeError
body_refusal n body names = option_or (option_map TooDeep (first_deep MAX_LEVELS body)) (part_refusal n body names)

abbrev pub tag_refusal : Issued → List Tag → Body → List (List ℕ) → Option ShapeError
tag_refusal issued ts body names =
    option_or (option_map DuplicateTag (first_repeated same_tag [] ts)) (option_or (option_map Unissued (first_unissued issued ts)) (body_refusal (length ts) body names))
