-- What a command makes of a program, or why it is refused.
--
-- Edited                  == the program with the inverse of the command, or the refusal
-- refuse why test next    == the refusal where the test holds, and else what is next
-- named t body next       == what is next of the part with this tag and of its place; refused where no part
--                            has the tag
-- settled tree inverse    == this tree and inverse; refused where the tree is no program
-- stands_in parent part   == a place with this parent is in the part
-- is_action c             == the content is neither a conditional's nor a loop's
-- same_kind c d           == both contents are assignments, or writes, or stores, or conditionals', or loops'
-- next_tag author issued  == the tag of the author's next part
-- is_spent author issued  == the author has no next serial
-- new_tag author issued   == the tag of the author's next part, if it has a next serial
-- edited p command author == what the command makes of p, with this author of new parts
use Rattle.std.specs.Prelude.{ℕ, ◌+◌, Bool, true, false, not, nat_le, Option, Some, None, is_some, if◌then◌else◌}
use Rattle.hpr_terms.specs.declared.limits.TheConstants.{MAX_TAG_NUMBER}
use Rattle.hpr_terms.specs.declared.tag.Tag.{Tag}
use Rattle.hpr_syntax.specs.declared.tree.Stmt.{Stmt}
use Rattle.hpr_syntax.specs.declared.rows.Content.{Content}
use Rattle.hpr_syntax.specs.declared.rows.Content.TheVariants.{Assign, If, While, Write, Store}
use Rattle.hpr_syntax.specs.declared.shape.ShapeError.{ShapeError}
use Rattle.hpr_syntax.specs.Body.{Body, done}
use Rattle.hpr_syntax.specs.BodyOf.{before}
use Rattle.hpr_syntax.specs.Parts.{find_stmt}
use Rattle.hpr_syntax.specs.Rows.{Parent, content_of, made, structure_of, is_simple}
use Rattle.hpr_syntax.specs.Issued.{Issued, issued_to, raised}
use Rattle.hpr_syntax.specs.Tree.{Tree}
use Rattle.hpr_syntax.specs.Shape.{shape}
use Rattle.hpr_edit.specs.declared.command.Place.{Place}
use Rattle.hpr_edit.specs.declared.command.Command.{Command}
use Rattle.hpr_edit.specs.declared.command.Command.TheVariants.{Insert, Delete, Move, Set, Wrap, Unwrap, Finals}
use Rattle.hpr_edit.specs.declared.command.Inverse.{Inverse}
use Rattle.hpr_edit.specs.declared.command.Inverse.TheVariants.{Remove, PutBack, MoveBack, SetBack, Lift, Rewrap, FinalsBack}
use Rattle.hpr_edit.specs.declared.command.EditError.{EditError}
use Rattle.hpr_edit.specs.declared.command.EditError.TheVariants.{NoTag, IntoItself, NoPlace, KindDiffers, SerialsSpent, Shape}
use Rattle.hpr_edit.specs.Places.{width, is_place, place_of}
use Rattle.hpr_edit.specs.Changes.{at_part, at_place, gone, first_block, second_block, saying, wrapped, unwrapped}

pub data Edited : Type 0 where
  becomes : (tree : Tree) → (inverse : Inverse) → Edited
  refused : (why : EditError) → Edited

abbrev pub refuse : EditError → Bool → Edited → Edited
refuse why true next = refused why
refuse why false next = next

abbrev pub found : Tag → Option Stmt → Option Place → (Stmt → Place → Edited) → Edited
found t None place next = refused (NoTag t)
found t (Some part) None next = refused (NoTag t)
found t (Some part) (Some place) next = next part place

abbrev pub named : Tag → Body → (Stmt → Place → Edited) → Edited
named t body next = found t (find_stmt t body) (place_of t body) next

abbrev pub unless : Option ShapeError → Edited → Edited
unless None next = next
unless (Some why) next = refused (Shape why)

-- the last test
abbrev pub settled : Tree → Inverse → Edited
settled tree inverse = unless (shape tree) (becomes tree inverse)

abbrev pub stands_in : Parent → Stmt → Bool
stands_in None part = false
stands_in (Some p) part = is_some (find_stmt p.0 (before part done))

abbrev pub is_action : Content → Bool
is_action c = is_simple (structure_of c)

abbrev pub same_kind : Content → Content → Bool
same_kind (Assign x e) (Assign y f) = true
same_kind (If e) (If f) = true
same_kind (While e) (While f) = true
same_kind (Write x e) (Write y f) = true
same_kind (Store x i e) (Store y j f) = true
same_kind _ _ = false

abbrev pub max_serial : ℕ
max_serial = MAX_TAG_NUMBER

abbrev pub next_tag : ℕ → Issued → Tag
next_tag author issued = record { author = author; serial = issued_to author issued + 1 }

abbrev pub is_spent : ℕ → Issued → Bool
is_spent author issued = nat_le max_serial (issued_to author issued)

abbrev pub new_tag : ℕ → Issued → Option Tag
new_tag author issued = if is_spent author issued then None else Some (next_tag author issued)

-- the program with another body, in which the author has a new part
abbrev pub with_new : ℕ → Body → Tree → Tree
with_new author body p = record { issued = raised author (issued_to author p.issued + 1) p.issued; body = body; finals = p.finals }

abbrev pub edited : Tree → Command → ℕ → Edited
edited p (Insert place c) author =
    refuse NoPlace (not (is_place place p.body))
    (refuse SerialsSpent (is_spent author p.issued)
    (settled (with_new author (at_place place (before (made (next_tag author p.issued) c done done)) p.body) p) (Remove (next_tag author p.issued))))
edited p (Delete t) author = named t p.body (λ part old. settled (record p { body = at_part t gone p.body }) (PutBack old part))
edited p (Move t place) author = named t p.body (λ part old.
    refuse (IntoItself t) (stands_in place.parent part)
    (refuse NoPlace (not (is_place place (at_part t gone p.body)))
    (settled (record p { body = at_place place (before part) (at_part t gone p.body) }) (MoveBack t old))))
edited p (Set t c) author = named t p.body (λ part old.
    refuse (KindDiffers t) (not (same_kind c (content_of part)))
    (settled (record p { body = at_part t (saying c) p.body }) (SetBack t (content_of part))))
edited p (Wrap t c) author = named t p.body (λ part old.
    refuse (KindDiffers t) (is_action c)
    (refuse SerialsSpent (is_spent author p.issued)
    (settled (with_new author (at_part t (wrapped (next_tag author p.issued) c) p.body) p) (Lift (next_tag author p.issued)))))
edited p (Unwrap t) author = named t p.body (λ part old.
    refuse (KindDiffers t) (is_action (content_of part))
    (settled (record p { body = at_part t unwrapped p.body }) (Rewrap old t (content_of part) (width (first_block part)) (width (second_block part)))))
edited p (Finals names) author = settled (record p { finals = names }) (FinalsBack p.finals)
