use Rattle.std.proofs.Common.{sym, ap, ◌∙◌, is_some}
use Rattle.hpr_terms.specs.declared.expr.Expr.TheVariants.{Var}
use Rattle.hpr_terms.specs.declared.token.Token.TheVariants.{Mark}
use Rattle.hpr_expressions.proofs.Named.{named_other}
use Rattle.hpr_expressions.proofs.expression.Context.named_sign.Goals as goal

pub returns-in_default : goal.returns-in_default
returns-in_default c =
    c.operator_sign.ensures (Var c.args.name.now) ∙ ap is_some (sym (named_other c.args.self.now c.args.name.now (Mark c.args.sign) (λ e. c.in_default.not-OpenSquare (cc))))
