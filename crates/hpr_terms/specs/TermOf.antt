-- An expression as a plain tree.
--
-- term_of e == the expression's term
use Rattle.hpr_terms.specs.declared.expr.Expr.{Expr}
use Rattle.hpr_terms.specs.declared.expr.Expr.TheVariants.{Num, Var, Prefix, Infix, Elem}
use Rattle.hpr_terms.specs.Term.{Term, num, var, prefix, infix', element}

abbrev pub term_of : Expr → Term
term_of (Num n) = num n
term_of (Var x) = var x
term_of (Prefix op a) = prefix op a
term_of (Infix op a b) = infix' op a b
term_of (Elem x i) = element x i
