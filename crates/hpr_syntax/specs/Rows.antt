-- The rows of a block in preorder.
--
-- Parent           == where a part stands: the part around it with the branch, or none at the top
-- stmt_by t action == the part t that does the action
-- row_of t p i c   == the row of these four
-- rows_of p i body == the rows of a block's parts, of which the first stands at the place i
-- content_of stmt  == what the part says
-- structure_of c   == which blocks a part that says this has
-- is_simple s      == a part of this structure has no blocks
-- same_structure a b == the two structures are one
-- assigned content == the name that the part defines: an assignment its variable, a write the stream, a store
--                     its array, a predicate none
-- expr_in content  == the expression that is assigned, written, stored or tested
-- index_in content == the expression of a store that gives the index; other parts have none
-- made t c a b     == the part with this tag that says this, with these blocks, as far as it has blocks
use Rattle.std.specs.Prelude.{ℕ, ◌+◌, Bool, true, false, Option, Some, None, List, [], ◌∷◌, ◌++◌}
use Rattle.hpr_terms.specs.declared.tag.Tag.{Tag}
use Rattle.hpr_terms.specs.declared.expr.Expr.{Expr}
use Rattle.hpr_syntax.specs.declared.tree.Stmt.{Stmt}
use Rattle.hpr_syntax.specs.declared.rows.Row.{Row}
use Rattle.hpr_syntax.specs.declared.rows.Content.{Content}
use Rattle.hpr_syntax.specs.declared.rows.Content.TheVariants.{Assign, If, While, Write, Store}
use Rattle.hpr_syntax.specs.declared.rows.Structure.{Structure}
use Rattle.hpr_syntax.specs.declared.rows.Structure.TheVariants.{Simple, Conditional, Loop}
use Rattle.hpr_syntax.specs.Action.{Action, assigns, writes, stores}
use Rattle.hpr_syntax.specs.Body.{Body, done, action, branch, loop}
use Rattle.hpr_syntax.specs.declared.tree.Stmt.TheVariants as stmt

-- where a part stands: the part around it with the branch, or none at the top
abbrev pub Parent : Type 0
Parent = Option (Tag × Bool)

-- an action as what its part says
abbrev pub content_by : Action → Content
content_by (assigns x e) = Assign x e
content_by (writes x e) = Write x e
content_by (stores x i e) = Store x i e

abbrev pub stmt_by : Tag → Action → Stmt
stmt_by t (assigns x e) = stmt.Assign t x e
stmt_by t (writes x e) = stmt.Write t x e
stmt_by t (stores x i e) = stmt.Store t x i e

abbrev pub row_of : Tag → Parent → ℕ → Content → Row
row_of t p i c = record { tag = t; parent = p; at = i; content = c }

-- the rows of a block's parts from the place i on
abbrev pub rows_of : Parent → ℕ → Body → List Row
rows_of p i done = []
rows_of p i (action t d rest) = row_of t p i (content_by d) ∷ rows_of p (i + 1) rest
rows_of p i (branch t e a b rest) =
    row_of t p i (If e) ∷ rows_of (Some (t, true)) 0 a ++ rows_of (Some (t, false)) 0 b ++ rows_of p (i + 1) rest
rows_of p i (loop t e b rest) = row_of t p i (While e) ∷ rows_of (Some (t, true)) 0 b ++ rows_of p (i + 1) rest

abbrev pub content_of : Stmt → Content
content_of (stmt.Assign t x e) = Assign x e
content_of (stmt.If t e a b) = If e
content_of (stmt.While t e b) = While e
content_of (stmt.Write t x e) = Write x e
content_of (stmt.Store t x i e) = Store x i e

abbrev pub structure_of : Content → Structure
structure_of (Assign x e) = Simple
structure_of (If e) = Conditional
structure_of (While e) = Loop
structure_of (Write x e) = Simple
structure_of (Store x i e) = Simple

abbrev pub is_simple : Structure → Bool
is_simple Simple = true
is_simple Conditional = false
is_simple Loop = false

abbrev pub same_structure : Structure → Structure → Bool
same_structure Simple Simple = true
same_structure Conditional Conditional = true
same_structure Loop Loop = true
same_structure _ _ = false

abbrev pub assigned : Content → Option (List ℕ)
assigned (Assign x e) = Some x
assigned (If e) = None
assigned (While e) = None
assigned (Write x e) = Some x
assigned (Store x i e) = Some x

abbrev pub expr_in : Content → Expr
expr_in (Assign x e) = e
expr_in (If e) = e
expr_in (While e) = e
expr_in (Write x e) = e
expr_in (Store x i e) = e

abbrev pub index_in : Content → Option Expr
index_in (Store x i e) = Some i
index_in _ = None

abbrev pub made : Tag → Content → Body → Body → Stmt
made t (Assign x e) a b = stmt.Assign t x e
made t (If e) a b = stmt.If t e a b
made t (While e) a b = stmt.While t e a
made t (Write x e) a b = stmt.Write t x e
made t (Store x i e) a b = stmt.Store t x i e
