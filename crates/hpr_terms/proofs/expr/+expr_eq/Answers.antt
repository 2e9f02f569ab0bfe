use Rattle.hpr_terms.proofs.Compare.{eq_codes}
use Rattle.hpr_terms.proofs.expr.+expr_eq.Goals as goal

pub OperandPartialEq::eq-returns : goal.OperandPartialEq::eq-returns
OperandPartialEq::eq-returns t c = rw (← c.self.view_is, ← c.other.view_is, ← eq_codes c.self.inside.inner.value c.other.inside.inner.value, ← c.deref.ensures, ← c.deref-2.ensures) c.eq.ensures
