-- The names that an expression uses.
--
-- TermUses t x == the name x stands in the term, or an element of the array x
-- Uses e x     == the same of an expression
-- names_in t   == the names in the term, from left to right, each as often as it stands there; an array's
--                 before those of its index
use Rattle.std.specs.Prelude.{◌≡◌, ℕ, List, [], ◌∷◌, ◌++◌, ◌⊎◌}
use Rattle.hpr_terms.specs.declared.expr.Expr.{Expr}
use Rattle.hpr_terms.specs.Term.{Term, num, var, prefix, infix', element}
use Rattle.hpr_terms.specs.TermOf.{term_of}

abbrev pub TermUses : Term → List ℕ → Type 0
TermUses (num n) x = ⊥
TermUses (var y) x = x ≡ y
TermUses (prefix op a) x = TermUses a x
TermUses (infix' op a b) x = TermUses a x ⊎ TermUses b x
TermUses (element y i) x = (x ≡ y) ⊎ TermUses i x

abbrev pub Uses : Expr → List ℕ → Type 0
Uses e x = TermUses (term_of e) x

abbrev pub names_in : Term → List (List ℕ)
names_in (num n) = []
names_in (var x) = x ∷ []
names_in (prefix op a) = names_in a
names_in (infix' op a b) = names_in a ++ names_in b
names_in (element x i) = x ∷ names_in i
