-- Where something stands in a body.
--
-- width block            == how many parts a block has, without those that stand in them
-- joined block next      == the parts of one block, and then those of the other
-- block_in w part        == a part's block: true is a loop's body or a conditional's first, false a
--                           conditional's second
-- block_at parent body   == the block that a place names
-- is_place place body    == the place's block is there, and it is no shorter than the place says
-- place_of t body        == where the part with this tag stands
use Rattle.std.specs.Prelude.{ℕ, ◌+◌, Bool, true, false, nat_le, if◌then◌else◌, Option, Some, None}
use Rattle.std.specs.Option.{option_or}
use Rattle.hpr_terms.specs.declared.tag.Tag.{Tag}
use Rattle.hpr_syntax.specs.declared.tree.Stmt.{Stmt}
use Rattle.hpr_syntax.specs.declared.tree.Stmt.TheVariants.{If, While}
use Rattle.hpr_syntax.specs.Body.{Body, done, action, branch, loop}
use Rattle.hpr_syntax.specs.Parts.{same_tag, find_stmt}
use Rattle.hpr_syntax.specs.Rows.{Parent}
use Rattle.hpr_edit.specs.declared.command.Place.{Place}

abbrev pub width : Body → ℕ
width done = 0
width (action t d rest) = width rest + 1
width (branch t e a b rest) = width rest + 1
width (loop t e b rest) = width rest + 1

abbrev pub joined : Body → Body → Body
joined done next = next
joined (action t d rest) next = action t d (joined rest next)
joined (branch t e a b rest) next = branch t e a b (joined rest next)
joined (loop t e b rest) next = loop t e b (joined rest next)

abbrev pub block_in : Bool → Stmt → Option Body
block_in w (If t e a b) = if w then Some a else Some b
block_in w (While t e b) = if w then Some b else None
block_in w part = None

abbrev pub block_in_found : Bool → Option Stmt → Option Body
block_in_found w None = None
block_in_found w (Some part) = block_in w part

-- the block that a place names: the top block, or one of the part with this tag
abbrev pub block_at : Parent → Body → Option Body
block_at None body = Some body
block_at (Some p) body = block_in_found p.1 (find_stmt p.0 body)

abbrev pub is_within : ℕ → Option Body → Bool
is_within n None = false
is_within n (Some block) = nat_le n (width block)

abbrev pub is_place : Place → Body → Bool
is_place place body = is_within place.at (block_at place.parent body)

-- where the first part with this tag stands, in a block under this parent, of which the first part stands at
-- the place i
abbrev pub place_from : Tag → Parent → ℕ → Body → Option Place
place_from t p i done = None
place_from t p i (action u d rest) = if same_tag u t then Some (record { parent = p; at = i }) else place_from t p (i + 1) rest
place_from t p i (branch u e a b rest) =
    if same_tag u t then Some (record { parent = p; at = i })
    else option_or (place_from t (Some (u, true)) 0 a) (option_or (place_from t (Some (u, false)) 0 b) (place_from t p (i + 1) rest))
place_from t p i (loop u e b rest) =
    if same_tag u t then Some (record { parent = p; at = i }) else option_or (place_from t (Some (u, true)) 0 b) (place_from t p (i + 1) rest)

abbrev pub place_of : Tag → Body → Option Place
place_of t body = place_from t None 0 body
