-- An expression's code tells expressions apart.
--
-- expr_of t         == the expression whose term it is
-- expr_of-term_of e == an expression is that of its term
-- expr_inj          == two expressions whose terms have the same code are the same
use Rattle.std.proofs.Common.{◌≡◌, ℕ, List, refl, ap, sym, ◌∙◌}
use Rattle.hpr_terms.specs.declared.expr.Expr.{Expr}
use Rattle.hpr_terms.specs.declared.expr.Expr.TheVariants.{Num, Var, Prefix, Infix, Elem}
use Rattle.hpr_terms.specs.Term.{Term, num, var, prefix, infix', element}
use Rattle.hpr_terms.specs.TermOrder.{term_code}
use Rattle.hpr_terms.specs.TermOf.{term_of}
use Rattle.hpr_terms.specs.Private.TermCode.{term_inj}

abbrev pub expr_of : Term → Expr
expr_of (num n) = Num n
expr_of (var x) = Var x
expr_of (prefix op a) = Prefix op a
expr_of (infix' op a b) = Infix op a b
expr_of (element x i) = Elem x i

pub expr_of-term_of : (e : Expr) → expr_of (term_of e) ≡ e
expr_of-term_of (Num n) = refl
expr_of-term_of (Var x) = refl
expr_of-term_of (Prefix op a) = refl
expr_of-term_of (Infix op a b) = refl
expr_of-term_of (Elem x i) = refl

pub expr_inj : (e f : Expr) (s t : List ℕ) → term_code (term_of e) s ≡ term_code (term_of f) t → (e ≡ f) × (s ≡ t)
expr_inj e f s t p =
    let q : (term_of e ≡ term_of f) × (s ≡ t) = term_inj (term_of e) (term_of f) s t p in
    let r : expr_of (term_of e) ≡ expr_of (term_of f) = ap expr_of q.0 in
    (sym (expr_of-term_of e) ∙ r ∙ expr_of-term_of f, q.1)
