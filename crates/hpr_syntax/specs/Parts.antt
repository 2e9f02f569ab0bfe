-- The parts of a block.
--
-- tag_of stmt         == the statement's tag
-- expr_of stmt        == the expression that it assigns, writes, stores or tests
-- index_of stmt       == the expression of a store that gives the index; none for other parts
-- defines stmt        == the name that an assignment, a write or a store defines; none for a predicate
-- same_tag a b        == the two tags have the same author and serial
-- find_stmt t body    == the first statement with this tag, in preorder
-- tags_of body after  == the tags of the block's parts in preorder, and then these
use Rattle.std.specs.Prelude.{ℕ, Bool, ◌==◌, ◌&&◌, if◌then◌else◌, Option, Some, None, List, ◌∷◌}
use Rattle.std.specs.Option.{option_or}
use Rattle.hpr_terms.specs.declared.tag.Tag.{Tag}
use Rattle.hpr_terms.specs.declared.expr.Expr.{Expr}
use Rattle.hpr_syntax.specs.declared.tree.Stmt.{Stmt}
use Rattle.hpr_syntax.specs.declared.tree.Stmt.TheVariants.{Assign, If, While, Write, Store}
use Rattle.hpr_syntax.specs.Body.{Body, done, action, branch, loop}
use Rattle.hpr_syntax.specs.Rows.{stmt_by, content_of, assigned, expr_in, index_in}

abbrev pub tag_of : Stmt → Tag
tag_of (Assign t x e) = t
tag_of (If t e a b) = t
tag_of (While t e b) = t
tag_of (Write t x e) = t
tag_of (Store t x i e) = t

abbrev pub expr_of : Stmt → Expr
expr_of s = expr_in (content_of s)

abbrev pub index_of : Stmt → Option Expr
index_of s = index_in (content_of s)

abbrev pub defines : Stmt → Option (List ℕ)
defines s = assigned (content_of s)

abbrev pub same_tag : Tag → Tag → Bool
same_tag a b = (a.author == b.author) && (a.serial == b.serial)

-- the first statement with this tag, in preorder
abbrev pub find_stmt : Tag → Body → Option Stmt
find_stmt t done = None
find_stmt t (action u d rest) = if same_tag u t then Some (stmt_by u d) else find_stmt t rest
find_stmt t (branch u e a b rest) =
    if same_tag u t then Some (If u e a b) else option_or (find_stmt t a) (option_or (find_stmt t b) (find_stmt t rest))
find_stmt t (loop u e b rest) = if same_tag u t then Some (While u e b) else option_or (find_stmt t b) (find_stmt t rest)

-- the tags of a block's parts in preorder, and then these
abbrev pub tags_of : Body → List Tag → List Tag
tags_of done after = after
tags_of (action t d rest) after = t ∷ tags_of rest after
tags_of (branch t e a b rest) after = t ∷ tags_of a (tags_of b (tags_of rest after))
tags_of (loop t e b rest) after = t ∷ tags_of b (tags_of rest after)
