-- Blocks as plain trees: a list of statements, in which each statement has what stands in it.
--
-- Body             == the parts of a block: `done` is none, and each other begins with a part
-- depth body       == how many levels of blocks there are
-- part_count body  == how many parts there are
use Rattle.std.specs.Prelude.{ℕ, ◌+◌, max}
use Rattle.hpr_terms.specs.declared.tag.Tag.{Tag}
use Rattle.hpr_terms.specs.declared.expr.Expr.{Expr}
use Rattle.hpr_syntax.specs.Action.{Action}

pub data Body : Type 0 where
  done : Body
  action : (tag : Tag) → (does : Action) → (rest : Body) → Body
  branch : (tag : Tag) → (test : Expr) → (yes no : Body) → (rest : Body) → Body
  loop : (tag : Tag) → (test : Expr) → (body : Body) → (rest : Body) → Body

-- how deep blocks stand in one another
abbrev pub depth : Body → ℕ
depth done = 1
depth (action t d rest) = depth rest
depth (branch t e a b rest) = max (max (depth a) (depth b) + 1) (depth rest)
depth (loop t e b rest) = max (depth b + 1) (depth rest)

-- how many parts
abbrev pub part_count : Body → ℕ
part_count done = 0
part_count (action t d rest) = part_count rest + 1
part_count (branch t e a b rest) = part_count a + part_count b + part_count rest + 1
part_count (loop t e b rest) = part_count b + part_count rest + 1
