use Rattle.std.proofs.Common.{◌≡◌, rules}
use Rattle.std.specs.Ordering.{partial_ordering_then}
use Rattle.hpr_terms.proofs.Compare.{partial_codes, part_order, prefix_partial, infix_partial}
use Rattle.hpr_terms.proofs.expr.+expr_partial.Goals as goal

pub OperandPartialOrd::partial_cmp-returns : goal.OperandPartialOrd::partial_cmp-returns
OperandPartialOrd::partial_cmp-returns t c = rw (← c.self.view_is, ← c.other.view_is, ← partial_codes c.self.inside.inner.value c.other.inside.inner.value) cc

pub ExprPartialOrd::partial_cmp-returns-in-Prefix-other : goal.ExprPartialOrd::partial_cmp-returns-in-Prefix-other
ExprPartialOrd::partial_cmp-returns-in-Prefix-other t c =
    let whole : c.or_partial_cmp.result ≡ partial_ordering_then c.partial_cmp-in-Prefix-other.result (part_order c.in-Prefix.field-1 c.in-Prefix-other.field-1) = search rules in
    prefix_partial _ _ _ _ _ _ _ _ _ _ c.in-Prefix.is c.in-Prefix-other.is c.partial_cmp-in-Prefix-other.ensures (search rules) (search rules) whole

pub ExprPartialOrd::partial_cmp-returns-in-Infix-other : goal.ExprPartialOrd::partial_cmp-returns-in-Infix-other
ExprPartialOrd::partial_cmp-returns-in-Infix-other t c =
    let second : c.or_partial_cmp-in-Infix-other.result ≡ partial_ordering_then c.partial_cmp-in-Infix-other.result (part_order c.in-Infix.field-1 c.in-Infix-other.field-1) = search rules in
    let whole : c.or_partial_cmp-in-Infix-other-2.result ≡ partial_ordering_then c.or_partial_cmp-in-Infix-other.result (part_order c.in-Infix.field-2 c.in-Infix-other.field-2) = search rules in
    infix_partial _ _ _ _ _ _ _ _ _ _ _ _ _ c.in-Infix.is c.in-Infix-other.is c.partial_cmp-in-Infix-other.ensures (search rules) (search rules) second whole
