-- The rows of parts that a command doesn't name.
--
-- told body                 == tag and content of each part in preorder
-- others ts body            == the same of the parts with other tags than these
-- touched p command author  == the tags of the parts that a command names, puts in or takes out; a part that
--                              is deleted or moved goes with all that stands in it
use Rattle.std.specs.Prelude.{ℕ, Bool, not, Option, Some, None, List, [], ◌∷◌, map, filter}
use Rattle.std.specs.List.{list_any}
use Rattle.hpr_terms.specs.declared.tag.Tag.{Tag}
use Rattle.hpr_syntax.specs.declared.tree.Stmt.{Stmt}
use Rattle.hpr_syntax.specs.declared.rows.Content.{Content}
use Rattle.hpr_syntax.specs.Body.{Body, done}
use Rattle.hpr_syntax.specs.BodyOf.{before}
use Rattle.hpr_syntax.specs.Parts.{same_tag, find_stmt, tags_of}
use Rattle.hpr_syntax.specs.Rows.{rows_of}
use Rattle.hpr_syntax.specs.Tree.{Tree}
use Rattle.hpr_edit.specs.declared.command.Command.{Command}
use Rattle.hpr_edit.specs.declared.command.Command.TheVariants.{Insert, Delete, Move, Set, Wrap, Unwrap, Finals}
use Rattle.hpr_edit.specs.Edited.{next_tag}

abbrev pub told : Body → List (Tag × Content)
told body = map (λ row. (row.tag, row.content)) (rows_of None 0 body)

abbrev pub is_other : List Tag → Tag × Content → Bool
is_other ts row = not (list_any (same_tag row.0) ts)

abbrev pub others : List Tag → Body → List (Tag × Content)
others ts body = filter (is_other ts) (told body)

-- the tags of a part and of all that stands in it
abbrev pub tags_in : Option Stmt → List Tag
tags_in None = []
tags_in (Some part) = tags_of (before part done) []

abbrev pub touched : Tree → Command → ℕ → List Tag
touched p (Insert place c) author = next_tag author p.issued ∷ []
touched p (Delete t) author = tags_in (find_stmt t p.body)
touched p (Move t place) author = tags_in (find_stmt t p.body)
touched p (Set t c) author = t ∷ []
touched p (Wrap t c) author = next_tag author p.issued ∷ []
touched p (Unwrap t) author = t ∷ []
touched p (Finals names) author = []
