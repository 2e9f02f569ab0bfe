-- What is left of a part that stands.
--
-- IsPartLeft V s r == with r in place of the part s that begins it, and with what is left behind it, a block
--                     is what is left of it
use Rattle.hpr_syntax.specs.declared.tree.Stmt.{Stmt}
use Rattle.hpr_syntax.specs.Body.{Body}
use Rattle.hpr_syntax.specs.BodyOf.{before}
use Rattle.hpr_graph.specs.declared.vertex.Vertex.{Vertex}
use Rattle.hpr_prune.specs.Programs.{BlockLeft}

abbrev pub IsPartLeft : (Vertex → Type 0) → Stmt → Stmt → Type 0
IsPartLeft V s r = (k k' : Body) → BlockLeft V k k' → BlockLeft V (before s k) (before r k')
