use Rattle.hpr_terms.proofs.Compare.{cmp_codes}
use Rattle.hpr_terms.proofs.expr.+expr_ord.Goals as goal

pub OperandOrd::cmp-returns : goal.OperandOrd::cmp-returns
OperandOrd::cmp-returns t c = rw (← c.self.view_is, ← c.other.view_is, ← cmp_codes c.self.inside.inner.value c.other.inside.inner.value) cc
