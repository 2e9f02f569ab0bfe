-- Changes of a body at a part or at a place, and what can stand there.
--
-- at_part t f body       == `f part rest` stands in place of the part with this tag and of the rest of its
--                           block
-- from n f block         == `f rest` stands in place of the rest of a block from its place n on
-- with_block w f part    == the part with one of its blocks changed by f
-- at_place place f body  == `f rest` stands in place of what stands in a body from this place on
-- first_block part       == a loop's body or a conditional's first block; of another part it is empty
-- second_block part      == a conditional's second block; of another part it is empty
--
-- In place of a part and of the rest of its block can stand:
-- gone                   == the rest alone
-- saying c               == the part, saying this
-- wrapped t c            == a new part that says this and has the old one alone in its first block
-- unwrapped              == the part's first block, and then its second
-- In place of the rest of a block can stand:
-- before part            == the part, and then the rest
-- rewrapped t c n m      == a part that says this, with the next n parts as its first block and the m behind
--                           them as its second
use Rattle.std.specs.Prelude.{ℕ, zero, suc, Bool, if◌then◌else◌, Some, None}
use Rattle.hpr_terms.specs.declared.tag.Tag.{Tag}
use Rattle.hpr_syntax.specs.declared.tree.Stmt.{Stmt}
use Rattle.hpr_syntax.specs.declared.tree.Stmt.TheVariants.{If, While}
use Rattle.hpr_syntax.specs.declared.rows.Content.{Content}
use Rattle.hpr_syntax.specs.Body.{Body, done, action, branch, loop}
use Rattle.hpr_syntax.specs.BodyOf.{before}
use Rattle.hpr_syntax.specs.Parts.{tag_of, same_tag}
use Rattle.hpr_syntax.specs.Rows.{Parent, stmt_by, made}
use Rattle.hpr_edit.specs.declared.command.Place.{Place}
use Rattle.hpr_edit.specs.Places.{joined}

-- a change at a part; a program has at most one with a tag
abbrev pub at_part : Tag → (Stmt → Body → Body) → Body → Body
at_part t f done = done
at_part t f (action u d rest) = if same_tag u t then f (stmt_by u d) rest else action u d (at_part t f rest)
at_part t f (branch u e a b rest) = if same_tag u t then f (If u e a b) rest else branch u e (at_part t f a) (at_part t f b) (at_part t f rest)
at_part t f (loop u e b rest) = if same_tag u t then f (While u e b) rest else loop u e (at_part t f b) (at_part t f rest)

abbrev pub from : ℕ → (Body → Body) → Body → Body
from zero f block = f block
from (suc n) f done = done
from (suc n) f (action t d rest) = action t d (from n f rest)
from (suc n) f (branch t e a b rest) = branch t e a b (from n f rest)
from (suc n) f (loop t e b rest) = loop t e b (from n f rest)

abbrev pub with_block : Bool → (Body → Body) → Stmt → Stmt
with_block w f (If t e a b) = if w then If t e (f a) b else If t e a (f b)
with_block w f (While t e b) = if w then While t e (f b) else While t e b
with_block w f part = part

-- the block of a body that a place names, changed
abbrev pub in_block : Parent → (Body → Body) → Body → Body
in_block None f body = f body
in_block (Some p) f body = at_part p.0 (λ part rest. before (with_block p.1 f part) rest) body

-- a change at a place
abbrev pub at_place : Place → (Body → Body) → Body → Body
at_place place f body = in_block place.parent (from place.at f) body

abbrev pub first_block : Stmt → Body
first_block (If t e a b) = a
first_block (While t e b) = b
first_block part = done

abbrev pub second_block : Stmt → Body
second_block (If t e a b) = b
second_block part = done

abbrev pub gone : Stmt → Body → Body
gone part rest = rest

abbrev pub saying : Content → Stmt → Body → Body
saying c part rest = before (made (tag_of part) c (first_block part) (second_block part)) rest

abbrev pub wrapped : Tag → Content → Stmt → Body → Body
wrapped t c part rest = before (made t c (before part done) done) rest

abbrev pub unwrapped : Stmt → Body → Body
unwrapped part rest = joined (first_block part) (joined (second_block part) rest)

-- the first n parts of a block
abbrev pub firsts : ℕ → Body → Body
firsts zero block = done
firsts (suc n) done = done
firsts (suc n) (action t d rest) = action t d (firsts n rest)
firsts (suc n) (branch t e a b rest) = branch t e a b (firsts n rest)
firsts (suc n) (loop t e b rest) = loop t e b (firsts n rest)

-- the parts of a block behind its first n
abbrev pub later : ℕ → Body → Body
later zero block = block
later (suc n) done = done
later (suc n) (action t d rest) = later n rest
later (suc n) (branch t e a b rest) = later n rest
later (suc n) (loop t e b rest) = later n rest

abbrev pub rewrapped : Tag → Content → ℕ → ℕ → Body → Body
rewrapped t c n m block = before (made t c (firsts n block) (firsts m (later n block))) (later m (later n block))
