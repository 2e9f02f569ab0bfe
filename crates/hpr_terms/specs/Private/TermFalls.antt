-- An operand has fewer levels than what it stands in.
--
-- depth_le-levels == an expression's operands are less deep than its term has levels
use Rattle.std.proofs.Common.{◌≤◌, max, arith}
use Rattle.hpr_terms.specs.declared.expr.Expr.{Expr}
use Rattle.hpr_terms.specs.declared.expr.Expr.TheVariants.{Num, Var, Prefix, Infix, Elem}
use Rattle.hpr_terms.specs.declared.expr.Operand.TheDeep.{deep-Expr}
use Rattle.hpr_terms.specs.Term.{levels}
use Rattle.hpr_terms.specs.TermOf.{term_of}

pub depth_le-levels : (e : Expr) → max (deep-Expr e) 0 ≤ levels (term_of e)
depth_le-levels (Num n) = omega arith
depth_le-levels (Var x) = omega arith
depth_le-levels (Prefix op a) = omega arith
depth_le-levels (Infix op a b) = omega arith
depth_le-levels (Elem x i) = omega arith
