-- Steps of the code, which changes a body in its place.
--
-- times t body           == how many parts have this tag
-- enclosing round        == what is put in place of the rest of a block where a part is put round its first
--                           parts
-- done_by change         == what the change puts in place of a part and of the rest of its block
-- on_first f block       == `f part rest` stands in place of a block's first part and of the rest
-- placing hand           == in place of a part and of the rest of its block: the part in the hand, if there
--                           is one, and the rest
-- found_within t part    == the part with this tag in the blocks of a part
-- in_part t f part       == the part with the change f made at the part with this tag in it
-- with_content c part    == the part, saying this
-- is_whole change        == where memory runs out, the block that is changed stays as it was
-- tree_of i body names   == the tree of these three
-- Settles tree result    == the result is this tree where it is a program, and else its refusal; memory aside
-- Located t body found   == what is found is the part with this tag and its place; nothing, where no part has
--                           the tag
-- Leaves t parent old b  == the part with this tag stands at this old place, and a place with this parent
--                           isn't in it
-- Refused edited why     == why the command is refused; memory aside
-- Makes edited tree r    == the command makes this tree, and the result is its inverse; or it is refused
-- Allows edited tree i r == the result is the tag of a new part, with which the command makes the tree and
--                           has the inverse i; or it is refused
-- IsProperCommand c      == the names in a command are variables, and its numbers in range
use Rattle.std.specs.Prelude.{◌≡◌, ℕ, ◌+◌, Bool, true, false, Option, Some, None, Result, List, All}
use Rattle.std.specs.Option.{option_or}
use Rattle.std.proofs.Common.{Ok, Err}
use Rattle.hpr_terms.specs.Names.{IsVariable}
use Rattle.hpr_terms.specs.declared.tag.Tag.{Tag}
use Rattle.hpr_syntax.specs.declared.tree.Stmt.{Stmt}
use Rattle.hpr_syntax.specs.declared.tree.Stmt.TheVariants.{If, While}
use Rattle.hpr_syntax.specs.declared.rows.Content.{Content}
use Rattle.hpr_syntax.specs.Body.{Body, done, action, branch, loop}
use Rattle.hpr_syntax.specs.BodyOf.{before}
use Rattle.hpr_syntax.specs.Parts.{tag_of, same_tag, find_stmt}
use Rattle.hpr_syntax.specs.Proper.{IsProperContent}
use Rattle.hpr_syntax.specs.Tree.{Tree}
use Rattle.hpr_syntax.specs.Shape.{IsProgram, shape}
use Rattle.hpr_edit.specs.declared.change.Change.{Change}
use Rattle.hpr_edit.specs.declared.change.Change.TheVariants.{Say, Unwrap, Enclose}
use Rattle.hpr_edit.specs.declared.change.Round.{Round}
use Rattle.hpr_edit.specs.declared.command.Place.{Place}
use Rattle.hpr_edit.specs.declared.command.Command.{Command}
use Rattle.hpr_edit.specs.declared.command.Command.TheVariants.{Insert, Finals}
use Rattle.hpr_edit.specs.declared.command.Command.TheVariants as command
use Rattle.hpr_edit.specs.declared.command.Inverse.{Inverse}
use Rattle.hpr_edit.specs.declared.command.EditError.{EditError}
use Rattle.hpr_edit.specs.declared.command.EditError.TheVariants.{NoTag, Shape, Memory}
use Rattle.hpr_edit.specs.declared.places.Found.{Found}
use Rattle.hpr_edit.specs.Places.{place_of}
use Rattle.hpr_syntax.specs.Rows.{Parent, stmt_by, made}
use Rattle.hpr_edit.specs.Changes.{at_part, from, with_block, first_block, second_block, saying, unwrapped, rewrapped}
use Rattle.hpr_edit.specs.Edited.{Edited, becomes, refused, named, stands_in}

abbrev pub one_if : Bool → ℕ
one_if true = 1
one_if false = 0

abbrev pub times : Tag → Body → ℕ
times t done = 0
times t (action u d rest) = one_if (same_tag u t) + times t rest
times t (branch u e a b rest) = one_if (same_tag u t) + times t a + times t b + times t rest
times t (loop u e b rest) = one_if (same_tag u t) + times t b + times t rest

abbrev pub enclosing : Round → Body → Body
enclosing r rest = rewrapped r.tag r.content.now r.first r.second rest

abbrev pub done_by : Change → Stmt → Body → Body
done_by (Say c) part rest = saying c.now part rest
done_by Unwrap part rest = unwrapped part rest
done_by (Enclose w n r) part rest = before (with_block w (from n (enclosing r)) part) rest

abbrev pub on_first : (Stmt → Body → Body) → Body → Body
on_first f done = done
on_first f (action t d rest) = f (stmt_by t d) rest
on_first f (branch t e a b rest) = f (If t e a b) rest
on_first f (loop t e b rest) = f (While t e b) rest

abbrev pub placing : Option Stmt → Stmt → Body → Body
placing None part rest = rest
placing (Some s) part rest = before s rest

abbrev pub found_within : Tag → Stmt → Option Stmt
found_within t (If u e a b) = option_or (find_stmt t a) (find_stmt t b)
found_within t (While u e b) = find_stmt t b
found_within t part = None

abbrev pub in_part : Tag → (Stmt → Body → Body) → Stmt → Stmt
in_part t f (If u e a b) = If u e (at_part t f a) (at_part t f b)
in_part t f (While u e b) = While u e (at_part t f b)
in_part t f part = part

abbrev pub with_content : Content → Stmt → Stmt
with_content c part = made (tag_of part) c (first_block part) (second_block part)

abbrev pub is_whole : Change → Bool
is_whole (Enclose w n r) = false
is_whole _ = true

abbrev pub tree_of : List (ℕ × ℕ) → Body → List (List ℕ) → Tree
tree_of issued body finals = record { issued = issued; body = body; finals = finals }

abbrev pub Settles : Tree → Result Tree EditError → Type 0
Settles tree (Ok p) = (p ≡ tree) × IsProgram tree
Settles tree (Err Memory) = Unit {0}
Settles tree (Err (Shape why)) = shape tree ≡ Some why
Settles tree (Err why) = ⊥

pub record Leaves (t : Tag) (parent : Parent) (old : Place) (body : Body) : Type 0 where
  pub part : Stmt
  pub found : find_stmt t body ≡ Some part
  pub place : place_of t body ≡ Some old
  pub out : stands_in parent part ≡ false

abbrev pub Refused : Edited → EditError → Type 0
Refused edited Memory = Unit {0}
Refused edited why = edited ≡ refused why

abbrev pub Makes : Edited → Tree → Result Inverse EditError → Type 0
Makes edited tree (Ok inverse) = edited ≡ becomes tree inverse
Makes edited tree (Err why) = Refused edited why

abbrev pub Allows : Edited → (Tag → Tree) → (Tag → Inverse) → Result Tag EditError → Type 0
Allows edited tree inverse (Ok tag) = edited ≡ becomes (tree tag) (inverse tag)
Allows edited tree inverse (Err why) = Refused edited why

abbrev pub IsProperCommand : Command → Type 0
IsProperCommand (Insert place c) = IsProperContent c
IsProperCommand (command.Set t c) = IsProperContent c
IsProperCommand (command.Wrap t c) = IsProperContent c
IsProperCommand (Finals names) = All IsVariable names
IsProperCommand _ = Unit {0}

abbrev pub Located : Tag → Body → Option Found → Type 0
Located t body (Some found) = (find_stmt t body ≡ Some found.part.now) × (place_of t body ≡ Some found.place)
Located t body None = (next : Stmt → Place → Edited) → named t body next ≡ refused (NoTag t)
