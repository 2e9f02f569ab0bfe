-- The derived comparisons of expressions against their codes.
use Rattle.std.proofs.Common.{Option, Some, None, ◌≡◌, ℕ, ◌==◌, ◌&&◌, Bool, true, false, List, [], ◌∷◌, refl, ap, sym, ◌∙◌}
use Rattle.std.specs.Cmp.Lexicographic.{slice_cmp, pointwise}
use Rattle.std.specs.Ordering.{nat_cmp, ordering_then, partial_ordering_then}
use Rattle.std.specs.declared.cmp.Ordering.{Ordering}
use Rattle.std.specs.declared.cmp.Ordering.TheVariants.{Less, Equal, Greater}
use Rattle.hpr_terms.specs.declared.expr.Expr.{Expr}
use Rattle.hpr_terms.specs.declared.expr.Expr.TheVariants.{Num, Var, Prefix, Infix, Elem}
use Rattle.hpr_terms.specs.declared.expr.Unary.{Unary}
use Rattle.hpr_terms.specs.declared.expr.Unary.TheVariants as unary
use Rattle.hpr_terms.specs.declared.expr.Binary.{Binary}
use Rattle.hpr_terms.specs.declared.expr.Binary.TheVariants as binary
use Rattle.hpr_terms.specs.Term.{Term, num, var, prefix, infix', element}
use Rattle.hpr_terms.specs.TermOrder.{unary_rank, binary_rank, name_code, term_code, code_of}
use Rattle.hpr_terms.specs.TermOf.{term_of}
use Rattle.hpr_terms.specs.contracts.expr.ExprPartialEq.TheImpl as eqs
use Rattle.hpr_terms.specs.contracts.expr.ExprOrd.TheImpl as ords
use Rattle.hpr_terms.specs.contracts.expr.ExprPartialOrd.TheImpl as partials
use Rattle.hpr_terms.specs.contracts.expr.UnaryPartialOrd.TheImpl as unary_partials
use Rattle.hpr_terms.specs.contracts.expr.BinaryPartialOrd.TheImpl as binary_partials
use Rattle.hpr_terms.specs.contracts.expr.UnaryPartialEq.TheImpl as unary_eqs
use Rattle.hpr_terms.specs.contracts.expr.UnaryOrd.TheImpl as unary_ords
use Rattle.hpr_terms.specs.contracts.expr.BinaryPartialEq.TheImpl as binary_eqs
use Rattle.hpr_terms.specs.contracts.expr.BinaryOrd.TheImpl as binary_ords

abbrev pub same : List ℕ → List ℕ → Bool
same = pointwise ◌==◌

abbrev pub order : List ℕ → List ℕ → Ordering
order = slice_cmp nat_cmp

pub and_assoc : (a b c : Bool) → (a && b) && c ≡ a && (b && c)
and_assoc true b c = refl
and_assoc false b c = refl

pub then_assoc : (a b c : Ordering) → ordering_then (ordering_then a b) c ≡ ordering_then a (ordering_then b c)
then_assoc Less b c = refl
then_assoc Equal b c = refl
then_assoc Greater b c = refl

unary_same : (x y : Unary) → (unary_eqs.ghosts).eq x y ≡ (unary_rank x == unary_rank y)
unary_same unary.Neg unary.Neg = refl
unary_same unary.Not unary.Not = refl
unary_same _ _ = refl

unary_order : (x y : Unary) → (unary_ords.ghosts).cmp x y ≡ nat_cmp (unary_rank x) (unary_rank y)
unary_order unary.Neg unary.Neg = refl
unary_order unary.Not unary.Not = refl
unary_order _ _ = refl

binary_same : (x y : Binary) → (binary_eqs.ghosts).eq x y ≡ (binary_rank x == binary_rank y)
binary_same binary.Or binary.Or = refl
binary_same binary.And binary.And = refl
binary_same binary.Equal binary.Equal = refl
binary_same binary.Differ binary.Differ = refl
binary_same binary.Less binary.Less = refl
binary_same binary.LessEqual binary.LessEqual = refl
binary_same binary.Greater binary.Greater = refl
binary_same binary.GreaterEqual binary.GreaterEqual = refl
binary_same binary.Add binary.Add = refl
binary_same binary.Sub binary.Sub = refl
binary_same binary.Mul binary.Mul = refl
binary_same binary.Div binary.Div = refl
binary_same binary.Rem binary.Rem = refl
binary_same _ _ = refl

binary_order : (x y : Binary) → (binary_ords.ghosts).cmp x y ≡ nat_cmp (binary_rank x) (binary_rank y)
binary_order binary.Or binary.Or = refl
binary_order binary.And binary.And = refl
binary_order binary.Equal binary.Equal = refl
binary_order binary.Differ binary.Differ = refl
binary_order binary.Less binary.Less = refl
binary_order binary.LessEqual binary.LessEqual = refl
binary_order binary.Greater binary.Greater = refl
binary_order binary.GreaterEqual binary.GreaterEqual = refl
binary_order binary.Add binary.Add = refl
binary_order binary.Sub binary.Sub = refl
binary_order binary.Mul binary.Mul = refl
binary_order binary.Div binary.Div = refl
binary_order binary.Rem binary.Rem = refl
binary_order _ _ = refl

pub name_same : (x y s t : List ℕ) → same (name_code x s) (name_code y t) ≡ same x y && same s t
name_same [] [] s t = refl
name_same (b ∷ x) (c ∷ y) s t = ap (λ r. (b == c) && r) (name_same x y s t) ∙ sym (and_assoc (b == c) _ _)
name_same _ _ s t = refl

pub name_order : (x y s t : List ℕ) → order (name_code x s) (name_code y t) ≡ ordering_then (order x y) (order s t)
name_order [] [] s t = refl
name_order (b ∷ x) (c ∷ y) s t = ap (λ r. ordering_then (nat_cmp b c) r) (name_order x y s t) ∙ sym (then_assoc (nat_cmp b c) _ _)
name_order _ _ s t = refl

and_regroup : (r a b c : Bool) → r && (a && (b && c)) ≡ (r && (a && b)) && c
and_regroup true true b c = refl
and_regroup true false b c = refl
and_regroup false a b c = refl

then_regroup : (r a b c : Ordering) → ordering_then r (ordering_then a (ordering_then b c)) ≡ ordering_then (ordering_then r (ordering_then a b)) c
then_regroup Equal Equal b c = refl
then_regroup Equal Less b c = refl
then_regroup Equal Greater b c = refl
then_regroup Less a b c = refl
then_regroup Greater a b c = refl

-- a code is no prefix of another
pub term_same : (x y : Term) (s t : List ℕ) → same (term_code x s) (term_code y t) ≡ same (code_of x) (code_of y) && same s t
term_same (num n) (num m) s t = sym (and_assoc (n == m) true (same s t))
term_same (var x) (var y) s t = rw (name_same x y s t, name_same x y [] []) (sym (and_assoc (same x y) true (same s t)))
term_same (prefix op a) (prefix op' b) s t = ap (λ r. (unary_rank op == unary_rank op') && r) (term_same a b s t) ∙ sym (and_assoc (unary_rank op == unary_rank op') _ _)
term_same (infix' op a b) (infix' op' a' b') s t =
    rw (term_same a a' (term_code b s) (term_code b' t), term_same a a' (term_code b []) (term_code b' []), term_same b b' s t)
    (and_regroup (binary_rank op == binary_rank op') (same (code_of a) (code_of a')) (same (code_of b) (code_of b')) (same s t))
term_same (element x i) (element y j) s t =
    rw (name_same x y (term_code i s) (term_code j t), name_same x y (term_code i []) (term_code j []), term_same i j s t)
    (sym (and_assoc (same x y) (same (code_of i) (code_of j)) (same s t)))
term_same _ _ s t = refl

pub term_order : (x y : Term) (s t : List ℕ) → order (term_code x s) (term_code y t) ≡ ordering_then (order (code_of x) (code_of y)) (order s t)
term_order (num n) (num m) s t = sym (then_assoc (nat_cmp n m) Equal (order s t))
term_order (var x) (var y) s t = rw (name_order x y s t, name_order x y [] []) (sym (then_assoc (order x y) Equal (order s t)))
term_order (prefix op a) (prefix op' b) s t = ap (λ r. ordering_then (nat_cmp (unary_rank op) (unary_rank op')) r) (term_order a b s t) ∙ sym (then_assoc (nat_cmp (unary_rank op) (unary_rank op')) _ _)
term_order (infix' op a b) (infix' op' a' b') s t =
    rw (term_order a a' (term_code b s) (term_code b' t), term_order a a' (term_code b []) (term_code b' []), term_order b b' s t)
    (then_regroup (nat_cmp (binary_rank op) (binary_rank op')) (order (code_of a) (code_of a')) (order (code_of b) (code_of b')) (order s t))
term_order (element x i) (element y j) s t =
    rw (name_order x y (term_code i s) (term_code j t), name_order x y (term_code i []) (term_code j []), term_order i j s t)
    (sym (then_assoc (order x y) (order (code_of i) (code_of j)) (order s t)))
term_order _ _ s t = refl

and_true : (a : Bool) → a ≡ a && true
and_true true = refl
and_true false = refl

pub then_equal : (a : Ordering) → a ≡ ordering_then a Equal
then_equal Less = refl
then_equal Equal = refl
then_equal Greater = refl

pub partial_then : (a b : Ordering) → partial_ordering_then (Some a) (Some b) ≡ Some (ordering_then a b)
partial_then Less b = refl
partial_then Equal b = refl
partial_then Greater b = refl

unary_partial : (x y : Unary) → (unary_partials.ghosts).partial_cmp x y ≡ Some (nat_cmp (unary_rank x) (unary_rank y))
unary_partial unary.Neg unary.Neg = refl
unary_partial unary.Not unary.Not = refl
unary_partial _ _ = refl

binary_partial : (x y : Binary) → (binary_partials.ghosts).partial_cmp x y ≡ Some (nat_cmp (binary_rank x) (binary_rank y))
binary_partial binary.Or binary.Or = refl
binary_partial binary.And binary.And = refl
binary_partial binary.Equal binary.Equal = refl
binary_partial binary.Differ binary.Differ = refl
binary_partial binary.Less binary.Less = refl
binary_partial binary.LessEqual binary.LessEqual = refl
binary_partial binary.Greater binary.Greater = refl
binary_partial binary.GreaterEqual binary.GreaterEqual = refl
binary_partial binary.Add binary.Add = refl
binary_partial binary.Sub binary.Sub = refl
binary_partial binary.Mul binary.Mul = refl
binary_partial binary.Div binary.Div = refl
binary_partial binary.Rem binary.Rem = refl
binary_partial _ _ = refl

pub eq_codes : (e f : Expr) → (eqs.ghosts).eq e f ≡ same (code_of (term_of e)) (code_of (term_of f))
eq_codes (Num n) (Num m) = and_true (n == m)
eq_codes (Var x) (Var y) = rw (name_same x y [] []) (and_true (same x y))
eq_codes (Prefix op a) (Prefix op' b) = ap (λ r. r && same (code_of a) (code_of b)) (unary_same op op')
eq_codes (Infix op a b) (Infix op' a' b') =
    rw (term_same a a' (term_code b []) (term_code b' [])) (ap (λ r. r && (same (code_of a) (code_of a') && same (code_of b) (code_of b'))) (binary_same op op'))
eq_codes (Elem x i) (Elem y j) = sym (name_same x y (term_code i []) (term_code j []))
eq_codes _ _ = refl

pub cmp_codes : (e f : Expr) → (ords.ghosts).cmp e f ≡ order (code_of (term_of e)) (code_of (term_of f))
cmp_codes (Num n) (Num m) = then_equal (nat_cmp n m)
cmp_codes (Var x) (Var y) = rw (name_order x y [] []) (then_equal (order x y))
cmp_codes (Prefix op a) (Prefix op' b) = ap (λ r. ordering_then r (order (code_of a) (code_of b))) (unary_order op op')
cmp_codes (Infix op a b) (Infix op' a' b') =
    rw (term_order a a' (term_code b []) (term_code b' [])) (ap (λ r. ordering_then r (ordering_then (order (code_of a) (code_of a')) (order (code_of b) (code_of b')))) (binary_order op op'))
cmp_codes (Elem x i) (Elem y j) = sym (name_order x y (term_code i []) (term_code j []))
cmp_codes _ _ = refl

pub partial_codes : (e f : Expr) → (partials.ghosts).partial_cmp e f ≡ Some (order (code_of (term_of e)) (code_of (term_of f)))
partial_codes (Num n) (Num m) = ap Some (then_equal (nat_cmp n m))
partial_codes (Var x) (Var y) = ap Some (rw (name_order x y [] []) (then_equal (order x y)))
partial_codes (Prefix op a) (Prefix op' b) =
    ap (λ r. partial_ordering_then r (Some (order (code_of a) (code_of b)))) (unary_partial op op') ∙ partial_then _ _
partial_codes (Infix op a b) (Infix op' a' b') =
    ap (λ r. partial_ordering_then r (partial_ordering_then (Some (order (code_of a) (code_of a'))) (Some (order (code_of b) (code_of b'))))) (binary_partial op op')
    ∙ ap (λ r. partial_ordering_then (Some (nat_cmp (binary_rank op) (binary_rank op'))) r) (partial_then (order (code_of a) (code_of a')) (order (code_of b) (code_of b')))
    ∙ partial_then (nat_cmp (binary_rank op) (binary_rank op')) (ordering_then (order (code_of a) (code_of a')) (order (code_of b) (code_of b')))
    ∙ ap (λ r. Some (ordering_then (nat_cmp (binary_rank op) (binary_rank op')) r)) (sym (term_order a a' (term_code b []) (term_code b' [])))
partial_codes (Elem x i) (Elem y j) = partial_then (order x y) (order (code_of i) (code_of j)) ∙ ap Some (sym (name_order x y (term_code i []) (term_code j [])))
partial_codes _ _ = refl

partial_then_assoc : (p x y : Option Ordering) → partial_ordering_then (partial_ordering_then p x) y ≡ partial_ordering_then p (partial_ordering_then x y)
partial_then_assoc None x y = refl
partial_then_assoc (Some Less) x y = refl
partial_then_assoc (Some Equal) x y = refl
partial_then_assoc (Some Greater) x y = refl

-- what the derived order of expressions answers, from the answers at their parts
abbrev pub part_order : Term → Term → Option Ordering
part_order a b = Some (order (code_of a) (code_of b))

pub prefix_partial : (op op' y y' : Unary) (a b : Term) (e f : Expr) (p r : Option Ordering) → e ≡ Prefix op a → f ≡ Prefix op' b
    → p ≡ (unary_partials.ghosts).partial_cmp y y' → y ≡ op → y' ≡ op' → r ≡ partial_ordering_then p (part_order a b)
    → r ≡ (partials.ghosts).partial_cmp e f
prefix_partial op op' y y' a b e f p r is is' first yo yo' whole =
    whole ∙ ap (λ x. partial_ordering_then x (part_order a b)) (first ∙ (λ i. (unary_partials.ghosts).partial_cmp (yo i) (yo' i)))
    ∙ sym (λ i. (partials.ghosts).partial_cmp (is i) (is' i))

pub infix_partial : (op op' y y' : Binary) (a b a' b' : Term) (e f : Expr) (p q r : Option Ordering) → e ≡ Infix op a b → f ≡ Infix op' a' b'
    → p ≡ (binary_partials.ghosts).partial_cmp y y' → y ≡ op → y' ≡ op' → q ≡ partial_ordering_then p (part_order a a')
    → r ≡ partial_ordering_then q (part_order b b')
    → r ≡ (partials.ghosts).partial_cmp e f
infix_partial op op' y y' a b a' b' e f p q r is is' first yo yo' second whole =
    whole
    ∙ ap (λ x. partial_ordering_then x (part_order b b')) (second ∙ ap (λ x. partial_ordering_then x (part_order a a')) (first ∙ (λ i. (binary_partials.ghosts).partial_cmp (yo i) (yo' i))))
    ∙ partial_then_assoc ((binary_partials.ghosts).partial_cmp op op') (part_order a a') (part_order b b')
    ∙ sym (λ i. (partials.ghosts).partial_cmp (is i) (is' i))
