-- The tests of a program that an edited one can fail.
--
-- left_at t n body          == how many of n levels are left where the part with this tag stands, itself
--                              included
-- room_at parent body       == how many levels are left for what stands in the block that a place names
-- none_left n t             == where no level is left, the tag
-- said_refusal t c          == why no part with this tag says this, if none does
-- new_refusal deep t c n    == why n parts, of which a new one with this tag says this and `deep` stands too
--                              deep, make no program
-- deep_refusal deep         == why a body is that of no program in which this part stands too deep
-- misplaced place s left    == why the part s isn't put at this place of what is left without it, if it isn't
-- names_alone names         == the tree of no parts with these names of `end`
use Rattle.std.specs.Prelude.{ℕ, List, [], zero, suc, ◌-◌, Option, Some, None, option_map, if◌then◌else◌}
use Rattle.std.specs.Option.{option_or}
use Rattle.hpr_terms.specs.declared.limits.TheConstants.{MAX_LEVELS}
use Rattle.hpr_terms.specs.declared.tag.Tag.{Tag}
use Rattle.hpr_syntax.specs.declared.rows.Content.{Content}
use Rattle.hpr_syntax.specs.declared.shape.ShapeError.{ShapeError}
use Rattle.hpr_syntax.specs.declared.shape.ShapeError.TheVariants.{TooDeep, ExprTooLarge, WrongName}
use Rattle.hpr_syntax.specs.Body.{Body, done, action, branch, loop}
use Rattle.hpr_syntax.specs.Parts.{same_tag}
use Rattle.hpr_syntax.specs.Rows.{Parent}
use Rattle.hpr_syntax.specs.Tree.{Tree}
use Rattle.hpr_syntax.specs.Shape.{first_deep, says_large, is_wrong, too_many}
use Rattle.hpr_syntax.specs.BodyOf.{before}
use Rattle.hpr_syntax.specs.declared.tree.Stmt.{Stmt}
use Rattle.hpr_edit.specs.declared.command.Place.{Place}
use Rattle.hpr_edit.specs.declared.command.EditError.{EditError}
use Rattle.hpr_edit.specs.declared.command.EditError.TheVariants.{NoPlace, Shape}
use Rattle.hpr_edit.specs.Places.{is_place}

abbrev pub left_at : Tag → ℕ → Body → Option ℕ
left_at t n done = None
left_at t n (action u d rest) = if same_tag u t then Some n else left_at t n rest
left_at t n (branch u e a b rest) =
    if same_tag u t then Some n
    else option_or (left_at t (n - 1) a) (option_or (left_at t (n - 1) b) (left_at t n rest))
left_at t n (loop u e b rest) = if same_tag u t then Some n else option_or (left_at t (n - 1) b) (left_at t n rest)

-- the levels below one where so many are left; none where there is no such part
abbrev pub below : Option ℕ → ℕ
below None = 0
below (Some n) = n - 1

abbrev pub room_at : Parent → Body → ℕ
room_at None body = MAX_LEVELS
room_at (Some p) body = below (left_at p.0 MAX_LEVELS body)

abbrev pub none_left : ℕ → Tag → Option Tag
none_left zero t = Some t
none_left (suc n) t = None

abbrev pub said_refusal : Tag → Content → Option ShapeError
said_refusal t c = if says_large c then Some (ExprTooLarge t) else if is_wrong c then Some (WrongName t) else None

abbrev pub deep_refusal : Option Tag → Option ShapeError
deep_refusal deep = option_map TooDeep deep

abbrev pub new_refusal : Option Tag → Tag → Content → ℕ → Option ShapeError
new_refusal deep t c n = option_or (deep_refusal deep) (option_or (said_refusal t c) (too_many n))

abbrev pub misplaced : Place → Stmt → Body → Option EditError
misplaced place s left =
    if is_place place left then option_map Shape (deep_refusal (first_deep (room_at place.parent left) (before s done))) else Some NoPlace

abbrev pub names_alone : List (List ℕ) → Tree
names_alone names = record { issued = []; body = done; finals = names }
