-- What the inverse of a command makes of what the command left.
--
-- body_back inverse body     == the body of before the command
-- finals_back inverse finals == the names of `end` before the command
-- reverted inverse p         == the program with these; its issued numbers stay
-- put_back inverse           == the tags of the parts that stand only before the command
-- Undoes old inverse p       == the inverse is that of a command that made of old a program with p's body and
--                               finals
-- IsPutBackIssued inverse p  == each tag that the inverse puts back was issued in p
-- Restores before inverse p  == what the inverse makes of p has the body and finals of before, and p's issued
--                               numbers
use Rattle.std.specs.Prelude.{◌≡◌, ℕ, ◌≤◌, Option, Some, None, List, [], ◌∷◌}
use Rattle.std.specs.List.{AllByRecursion}
use Rattle.hpr_terms.specs.declared.tag.Tag.{Tag}
use Rattle.hpr_syntax.specs.declared.tree.Stmt.{Stmt}
use Rattle.hpr_syntax.specs.Body.{Body, done}
use Rattle.hpr_syntax.specs.BodyOf.{before}
use Rattle.hpr_syntax.specs.Parts.{find_stmt, tags_of}
use Rattle.hpr_syntax.specs.Issued.{issued_to}
use Rattle.hpr_syntax.specs.Tree.{Tree}
use Rattle.hpr_syntax.specs.Shape.{IsProgram}
use Rattle.hpr_edit.specs.declared.command.Place.{Place}
use Rattle.hpr_edit.specs.declared.command.Command.{Command}
use Rattle.hpr_edit.specs.declared.command.Inverse.{Inverse}
use Rattle.hpr_edit.specs.declared.command.Inverse.TheVariants.{Remove, PutBack, MoveBack, SetBack, Lift, Rewrap, FinalsBack}
use Rattle.hpr_edit.specs.Changes.{at_part, at_place, gone, saying, unwrapped, rewrapped}
use Rattle.hpr_edit.specs.Edited.{edited, becomes}

-- a part, if there is one, taken out and put at a place
abbrev pub moved : Option Stmt → Tag → Place → Body → Body
moved None t place body = body
moved (Some part) t place body = at_place place (before part) (at_part t gone body)

abbrev pub body_back : Inverse → Body → Body
body_back (Remove t) body = at_part t gone body
body_back (PutBack place part) body = at_place place (before part) body
body_back (MoveBack t place) body = moved (find_stmt t body) t place body
body_back (SetBack t c) body = at_part t (saying c) body
body_back (Lift t) body = at_part t unwrapped body
body_back (Rewrap place t c n m) body = at_place place (rewrapped t c n m) body
body_back (FinalsBack names) body = body

abbrev pub finals_back : Inverse → List (List ℕ) → List (List ℕ)
finals_back (FinalsBack names) finals = names
finals_back _ finals = finals

abbrev pub reverted : Inverse → Tree → Tree
reverted inverse p = record { issued = p.issued; body = body_back inverse p.body; finals = finals_back inverse p.finals }

abbrev pub put_back : Inverse → List Tag
put_back (PutBack place part) = tags_of (before part done) []
put_back (Rewrap place t c n m) = t ∷ []
put_back _ = []

pub record Undoes (old : Tree) (inverse : Inverse) (p : Tree) : Type 0 where
  pub is : IsProgram old
  pub command : Command
  pub author : ℕ
  pub left : Tree
  pub edited : edited old command author ≡ becomes left inverse
  pub body : left.body ≡ p.body
  pub finals : left.finals ≡ p.finals

abbrev pub IsPutBackIssued : Inverse → Tree → Type 0
IsPutBackIssued inverse p = AllByRecursion (λ t. t.serial ≤ issued_to t.author p.issued) (put_back inverse)

pub record Restores (old : Tree) (inverse : Inverse) (p : Tree) : Type 0 where
  pub body : (reverted inverse p).body ≡ old.body
  pub finals : (reverted inverse p).finals ≡ old.finals
  pub issued : (reverted inverse p).issued ≡ p.issued
