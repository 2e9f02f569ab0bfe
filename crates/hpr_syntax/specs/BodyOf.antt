-- A list of statements as a plain tree.
--
-- before stmt rest == the block that begins with this statement
-- body_of stmts    == the block of these statements
use Rattle.std.specs.Prelude.{List, [], ◌∷◌}
use Rattle.hpr_syntax.specs.declared.tree.Stmt.{Stmt}
use Rattle.hpr_syntax.specs.declared.tree.Stmt.TheVariants.{Assign, If, While, Write, Store}
use Rattle.hpr_syntax.specs.Action.{assigns, writes, stores}
use Rattle.hpr_syntax.specs.Body.{Body, done, action, branch, loop}

abbrev pub before : Stmt → Body → Body
before (Assign t x e) rest = action t (assigns x e) rest
before (If t e a b) rest = branch t e a b rest
before (While t e b) rest = loop t e b rest
before (Write t x e) rest = action t (writes x e) rest
before (Store t x i e) rest = action t (stores x i e) rest

abbrev pub body_of : List Stmt → Body
body_of [] = done
body_of (s ∷ rest) = before s (body_of rest)
