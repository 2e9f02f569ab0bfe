-- What a script makes of a program.
--
-- Applied                     == the program that it becomes; or the number of the first command that is
--                                refused, and why
-- then_on k next e            == what is next of the program that the command number k makes; or the command
--                                is refused
-- applied_from k p cs author  == what the commands make of p one after the other, the first of which has the
--                                number k; new parts are this author's
-- applied p cs author         == the same, counted from 1
use Rattle.std.specs.Prelude.{ℕ, ◌+◌, List, [], ◌∷◌}
use Rattle.hpr_syntax.specs.Tree.{Tree}
use Rattle.hpr_edit.specs.declared.command.Command.{Command}
use Rattle.hpr_edit.specs.declared.command.EditError.{EditError}
use Rattle.hpr_edit.specs.Edited as one
use Rattle.hpr_edit.specs.Edited.{Edited, edited}

pub data Applied : Type 0 where
  becomes : (tree : Tree) → Applied
  refused : (number : ℕ) → (why : EditError) → Applied

abbrev pub then_on : ℕ → (Tree → Applied) → Edited → Applied
then_on k next (one.becomes tree inverse) = next tree
then_on k next (one.refused why) = refused k why

abbrev pub applied_from : ℕ → Tree → List Command → ℕ → Applied
applied_from k p [] author = becomes p
applied_from k p (c ∷ cs) author = then_on k (λ q. applied_from (k + 1) q cs author) (edited p c author)

abbrev pub applied : Tree → List Command → ℕ → Applied
applied p cs author = applied_from 1 p cs author
