-- A block that stands in another is less deep.
--
-- depth_falls == what stands in a list of statements is no deeper than its block
use Rattle.std.proofs.Common.{◌≤◌, max, arith, List, [], ◌∷◌}
use denote.Param.Weighed.{most}
use Rattle.hpr_syntax.specs.declared.tree.Stmt.{Stmt}
use Rattle.hpr_syntax.specs.declared.tree.Stmt.TheVariants.{Assign, If, While, Write, Store}
use Rattle.hpr_syntax.specs.declared.tree.Block.TheDeep.{deep-Stmt}
use Rattle.hpr_syntax.specs.Body.{depth}
use Rattle.hpr_syntax.specs.BodyOf.{body_of}

pub depth_falls : (stmts : List Stmt) → max (most deep-Stmt stmts) 0 ≤ depth (body_of stmts)
depth_falls [] = omega arith
depth_falls (Assign t x e ∷ rest) = omega (arith, depth_falls rest)
depth_falls (If t e a b ∷ rest) = omega (arith, depth_falls rest)
depth_falls (While t e b ∷ rest) = omega (arith, depth_falls rest)
depth_falls (Write t x e ∷ rest) = omega (arith, depth_falls rest)
depth_falls (Store t x i e ∷ rest) = omega (arith, depth_falls rest)
