-- The order of blocks: that of these lists of numbers, in which the first difference decides.
--
-- tag_code t rest    == the tag as numbers, and then these
-- act_code t x e next == the tag, the name and the expression as numbers, and then these
-- action_code t d next == the part t that does the action as numbers, and then these
-- body_code b next   == the block as numbers in preorder, and then these
-- block_code b       == the block as numbers
use Rattle.std.specs.Prelude.{ℕ, List, [], ◌∷◌}
use Rattle.hpr_terms.specs.declared.tag.Tag.{Tag}
use Rattle.hpr_terms.specs.declared.expr.Expr.{Expr}
use Rattle.hpr_terms.specs.TermOf.{term_of}
use Rattle.hpr_terms.specs.TermOrder.{name_code, term_code}
use Rattle.hpr_syntax.specs.Action.{Action, assigns, writes, stores}
use Rattle.hpr_syntax.specs.Body.{Body, done, action, branch, loop}

abbrev pub tag_code : Tag → List ℕ → List ℕ
tag_code t rest = t.author ∷ t.serial ∷ rest

abbrev pub act_code : Tag → List ℕ → Expr → List ℕ → List ℕ
act_code t x e next = tag_code t (name_code x (term_code (term_of e) next))

-- a write stands behind conditionals and loops, and a store behind a write
abbrev pub action_code : Tag → Action → List ℕ → List ℕ
action_code t (assigns x e) next = 1 ∷ act_code t x e next
action_code t (writes x e) next = 4 ∷ act_code t x e next
action_code t (stores x i e) next = 5 ∷ act_code t x i (term_code (term_of e) next)

-- a block as numbers
abbrev pub body_code : Body → List ℕ → List ℕ
body_code done next = 0 ∷ next
body_code (action t d rest) next = action_code t d (body_code rest next)
body_code (branch t e a b rest) next = 2 ∷ tag_code t (term_code (term_of e) (body_code a (body_code b (body_code rest next))))
body_code (loop t e b rest) next = 3 ∷ tag_code t (term_code (term_of e) (body_code b (body_code rest next)))

abbrev pub block_code : Body → List ℕ
block_code b = body_code b []
