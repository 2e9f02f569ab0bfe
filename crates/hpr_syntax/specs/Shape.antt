-- The tests that a tree must pass to be a program.
--
-- first_repeated same earlier xs == the first of xs that is the same as one before it, there or among the
--                                   earlier
-- first_repeated_tag body     == the first part's tag, in preorder, that stands earlier
-- first_unissued issued body  == the first part's tag whose serial is 0 or above its author's issued number
-- first_deep n body           == the first part's tag that stands more than n levels deep
-- first_where test body       == the first part's tag, in preorder, that says something of which the test is
--                                true
-- is_large e                  == the expression has more than MAX_OPERATORS operators
-- operators_in c              == how many operators the expressions of a part have: of a store, its index and
--                                its number together
-- says_large c                == these are more than MAX_OPERATORS
-- names_wrong e               == the expression has a wrong name: a variable that is no plain name, or an
--                                element of what is no array
-- is_wrong c                  == the part has a wrong name: an expression has, it assigns to what is no plain
--                                name, writes to what isn't the stream, or stores into what is no array
-- left_after most k           == what is left of most after k are taken, if there are as many
-- shape tree                  == the first refusal, in the order of the tests, or none
-- IsProgram tree              == its names are variables, its numbers in range, and the tree has no refusal
use Rattle.std.specs.Prelude.{◌≡◌, ℕ, Bool, false, not, zero, suc, ◌+◌, ◌-◌, ◌==◌, ◌||◌, nat_lt, nat_le, if◌then◌else◌, List, [], ◌∷◌, Option, Some, None, option_map}
use Rattle.std.specs.Option.{option_or}
use Rattle.std.specs.List.{list_any}
use Rattle.std.specs.Str.{bytes_eq}
use Rattle.hpr_terms.specs.declared.limits.TheConstants.{MAX_LEVELS, MAX_OPERATORS, MAX_PARTS}
use Rattle.hpr_terms.specs.declared.tag.Tag.{Tag}
use Rattle.hpr_terms.specs.declared.expr.Expr.{Expr}
use Rattle.hpr_terms.specs.Names.{is_name, is_stream, is_array}
use Rattle.hpr_terms.specs.Term.{Term, num, var, prefix, infix', element, operators}
use Rattle.hpr_terms.specs.TermOf.{term_of}
use Rattle.hpr_syntax.specs.declared.shape.ShapeError.{ShapeError}
use Rattle.hpr_syntax.specs.declared.shape.ShapeError.TheVariants.{DuplicateTag, Unissued, TooDeep, ExprTooLarge, WrongName, TooManyParts, DuplicateFinal}
use Rattle.hpr_syntax.specs.declared.rows.Content.{Content}
use Rattle.hpr_syntax.specs.declared.rows.Content.TheVariants.{Assign, If, While, Write, Store}
use Rattle.hpr_syntax.specs.Body.{Body, done, action, branch, loop, part_count}
use Rattle.hpr_syntax.specs.Rows.{content_by, expr_in}
use Rattle.hpr_syntax.specs.Parts.{same_tag, tags_of}
use Rattle.hpr_syntax.specs.Issued.{Issued, issued_to}
use Rattle.hpr_syntax.specs.Tree.{Tree}
use Rattle.hpr_syntax.specs.Proper.{IsProper}

abbrev pub first_repeated : {X : Type 0} → (X → X → Bool) → List X → List X → Option X
first_repeated same earlier [] = None
first_repeated same earlier (x ∷ xs) = if list_any (same x) earlier then Some x else first_repeated same (x ∷ earlier) xs

abbrev pub first_repeated_tag : Body → Option Tag
first_repeated_tag body = first_repeated same_tag [] (tags_of body [])

abbrev pub is_unissued : Issued → Tag → Bool
is_unissued issued t = (t.serial == 0) || nat_lt (issued_to t.author issued) t.serial

abbrev pub first_unissued : Issued → List Tag → Option Tag
first_unissued issued [] = None
first_unissued issued (t ∷ ts) = if is_unissued issued t then Some t else first_unissued issued ts

abbrev pub first_deep : ℕ → Body → Option Tag
first_deep n done = None
first_deep zero (action t d rest) = Some t
first_deep zero (branch t e a b rest) = Some t
first_deep zero (loop t e b rest) = Some t
first_deep (suc n) (action t d rest) = first_deep (suc n) rest
first_deep (suc n) (branch t e a b rest) = option_or (first_deep n a) (option_or (first_deep n b) (first_deep (suc n) rest))
first_deep (suc n) (loop t e b rest) = option_or (first_deep n b) (first_deep (suc n) rest)

abbrev pub is_large : Expr → Bool
is_large e = nat_lt MAX_OPERATORS (operators (term_of e))

abbrev pub left_after : ℕ → ℕ → Option ℕ
left_after most k = if nat_le k most then Some (most - k) else None

abbrev pub names_wrong : Term → Bool
names_wrong (num n) = false
names_wrong (var x) = not (is_name x)
names_wrong (prefix op a) = names_wrong a
names_wrong (infix' op a b) = names_wrong a || names_wrong b
names_wrong (element x i) = not (is_array x) || names_wrong i

abbrev pub operators_in : Content → ℕ
operators_in (Store x i e) = operators (term_of i) + operators (term_of e)
operators_in c = operators (term_of (expr_in c))

abbrev pub says_large : Content → Bool
says_large c = nat_lt MAX_OPERATORS (operators_in c)

abbrev pub is_wrong : Content → Bool
is_wrong (Assign x e) = not (is_name x) || names_wrong (term_of e)
is_wrong (If e) = names_wrong (term_of e)
is_wrong (While e) = names_wrong (term_of e)
is_wrong (Write x e) = not (is_stream x) || names_wrong (term_of e)
is_wrong (Store x i e) = not (is_array x) || names_wrong (term_of i) || names_wrong (term_of e)

abbrev pub first_where : (Content → Bool) → Body → Option Tag
first_where test done = None
first_where test (action t d rest) = if test (content_by d) then Some t else first_where test rest
first_where test (branch t e a b rest) =
    if test (If e) then Some t else option_or (first_where test a) (option_or (first_where test b) (first_where test rest))
first_where test (loop t e b rest) = if test (While e) then Some t else option_or (first_where test b) (first_where test rest)

abbrev pub too_many : ℕ → Option ShapeError
too_many n = if nat_lt MAX_PARTS n then Some (TooManyParts n) else None

unfoldable pub shape : Tree → Option ShapeError
shape t =
    option_or (option_map DuplicateTag (first_repeated_tag t.body))
    (option_or (option_map Unissued (first_unissued t.issued (tags_of t.body [])))
    (option_or (option_map TooDeep (first_deep MAX_LEVELS t.body))
    (option_or (option_map ExprTooLarge (first_where says_large t.body))
    (option_or (option_map WrongName (first_where is_wrong t.body))
    (option_or (too_many (part_count t.body))
    (option_map DuplicateFinal (first_repeated bytes_eq [] t.finals)))))))

pub record IsProgram (t : Tree) : Type 0 where
  pub proper : IsProper t
  pub shape : shape t ≡ None
