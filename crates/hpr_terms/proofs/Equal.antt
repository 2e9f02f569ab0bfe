-- What `==` answers at names and at expressions.
use Rattle.std.proofs.Common.{◌≡◌, ℕ, ◌==◌, Bool, true, List, [], ◌↔◌, IsTrue, ◌∙◌, subst, arith}
use Rattle.std.specs.Cmp.Lexicographic.{pointwise, same_text}
use Rattle.std.proofs.lemmas.Cmp.{nat_list_eq_equiv}
use Rattle.hpr_terms.specs.declared.expr.Expr.{Expr}
use Rattle.hpr_terms.specs.TermOrder.{code_of}
use Rattle.hpr_terms.specs.TermOf.{term_of}
use Rattle.hpr_terms.specs.Private.ExprCode.{expr_inj}
use Rattle.hpr_terms.specs.contracts.expr.ExprPartialEq.TheImpl as eqs
use Rattle.hpr_terms.proofs.Compare.{same, eq_codes}

pub name_equal : (x y : List ℕ) (r : Bool) → r ≡ pointwise ◌==◌ x y → IsTrue r ↔ (x ≡ y)
name_equal x y r is = (
  (λ p. let q : true ≡ pointwise ◌==◌ x y = grind (arith, is, p) in same_text x y q),
  (λ p. let w : pointwise ◌==◌ x y ≡ true = subst (λ z. pointwise ◌==◌ x z ≡ true) p (nat_list_eq_equiv.refl x) in let v : r ≡ true = is ∙ w in grind arith),
)

pub expr_equal : (e f : Expr) (r : Bool) → r ≡ (eqs.ghosts).eq e f → IsTrue r ↔ (e ≡ f)
expr_equal e f r is = (
  (λ p. let q : true ≡ same (code_of (term_of e)) (code_of (term_of f)) = grind (arith, eq_codes e f) in (expr_inj e f [] [] (same_text _ _ q)).0),
  (λ p. let w : (eqs.ghosts).eq e f ≡ true = subst (λ x. (eqs.ghosts).eq e x ≡ true) p (eq_codes e e ∙ nat_list_eq_equiv.refl (code_of (term_of e))) in let v : r ≡ true = is ∙ w in grind arith),
)
