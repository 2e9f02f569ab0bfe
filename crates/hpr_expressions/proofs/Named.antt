-- Behind a name stands what may stand behind any operand, and `[`.
use Rattle.std.proofs.Common.{◌≡◌, ◌≢◌, ℕ, List, refl}
use Rattle.hpr_terms.specs.declared.expr.Expr.TheVariants.{Var}
use Rattle.hpr_terms.specs.declared.token.Sign.TheVariants.{OpenSquare}
use Rattle.hpr_terms.specs.declared.token.Token.{Token}
use Rattle.hpr_terms.specs.declared.token.Token.TheVariants.{Mark}
use Rattle.hpr_expressions.specs.declared.expression.Context.{Context}
use Rattle.hpr_expressions.specs.Expression.{operator_next, named_next}

pub named_other : (c : Context) (x : List ℕ) (t : Token) → t ≢ Mark OpenSquare → named_next c x t ≡ operator_next c (Var x) t
named_other c x (Mark OpenSquare) differs = absurd (differs refl)
named_other c x _ differs = refl
