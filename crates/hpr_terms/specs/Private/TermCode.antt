-- A term's code tells terms apart.
--
-- unary_back n  == the operator with this rank
-- binary_back n == the operator of two operands with this rank
-- cut           == what two equal lists begin with is the same, and what follows it
-- apart         == two lists that begin otherwise are not the same
-- name_inj      == two names with the same code are the same
-- term_inj      == two terms with the same code are the same
-- term_coded    == terms with their codes
use Rattle.std.proofs.Common.{◌≡◌, ℕ, zero, suc, List, [], ◌∷◌, refl, ap, sym, ◌∙◌, false, eqb}
use borrow.Author.Tests.{eqb-false}
use Rattle.std.specs.Coded.{Coded, coded_list, coded_ℕ}
use Rattle.hpr_terms.specs.declared.expr.Unary.{Unary}
use Rattle.hpr_terms.specs.declared.expr.Unary.TheVariants.{Neg, Not}
use Rattle.hpr_terms.specs.declared.expr.Binary.{Binary}
use Rattle.hpr_terms.specs.declared.expr.Binary.TheVariants.{Or, And, Equal, Differ, Less, LessEqual, Greater, GreaterEqual, Add, Sub, Mul, Div, Rem}
use Rattle.hpr_terms.specs.Term.{Term, num, var, prefix, infix', element}
use Rattle.hpr_terms.specs.TermOrder.{unary_rank, binary_rank, name_code, term_code}

abbrev unary_back : ℕ → Unary
unary_back zero = Neg
unary_back (suc n) = Not

abbrev binary_back : ℕ → Binary
binary_back zero = Or
binary_back (suc zero) = And
binary_back (suc (suc zero)) = Equal
binary_back (suc (suc (suc zero))) = Differ
binary_back (suc (suc (suc (suc zero)))) = Less
binary_back (suc (suc (suc (suc (suc zero))))) = LessEqual
binary_back (suc (suc (suc (suc (suc (suc zero)))))) = Greater
binary_back (suc (suc (suc (suc (suc (suc (suc zero))))))) = GreaterEqual
binary_back (suc (suc (suc (suc (suc (suc (suc (suc zero)))))))) = Add
binary_back (suc (suc (suc (suc (suc (suc (suc (suc (suc zero))))))))) = Sub
binary_back (suc (suc (suc (suc (suc (suc (suc (suc (suc (suc zero)))))))))) = Mul
binary_back (suc (suc (suc (suc (suc (suc (suc (suc (suc (suc (suc zero))))))))))) = Div
binary_back n = Rem

unary_same : (op : Unary) → unary_back (unary_rank op) ≡ op
unary_same Neg = refl
unary_same Not = refl

binary_same : (op : Binary) → binary_back (binary_rank op) ≡ op
binary_same Or = refl
binary_same And = refl
binary_same Equal = refl
binary_same Differ = refl
binary_same Less = refl
binary_same LessEqual = refl
binary_same Greater = refl
binary_same GreaterEqual = refl
binary_same Add = refl
binary_same Sub = refl
binary_same Mul = refl
binary_same Div = refl
binary_same Rem = refl

unary_inj : (x y : Unary) → unary_rank x ≡ unary_rank y → x ≡ y
unary_inj x y p = sym (unary_same x) ∙ ap unary_back p ∙ unary_same y

binary_inj : (x y : Binary) → binary_rank x ≡ binary_rank y → x ≡ y
binary_inj x y p = sym (binary_same x) ∙ ap binary_back p ∙ binary_same y

pub cut : {a b : ℕ} {s t : List ℕ} → a ∷ s ≡ b ∷ t → (a ≡ b) × (s ≡ t)
cut p = (cc, cc)

pub apart : {a b : ℕ} {s t : List ℕ} → a ∷ s ≡ b ∷ t → eqb a b ≡ false → ⊥
apart {a} {b} p e = eqb-false a b e (cut p).0

pub name_inj : (x y s t : List ℕ) → name_code x s ≡ name_code y t → (x ≡ y) × (s ≡ t)
name_inj [] [] s t p = (refl, (cut p).1)
name_inj (b ∷ x) (c ∷ y) s t p =
    let a = cut (cut p).1 in
    let q = name_inj x y s t a.1 in
    (λ i. a.0 i ∷ q.0 i, q.1)
name_inj [] (c ∷ y) s t p = absurd (apart p refl)
name_inj (b ∷ x) [] s t p = absurd (apart p refl)

pub term_inj : (x y : Term) (s t : List ℕ) → term_code x s ≡ term_code y t → (x ≡ y) × (s ≡ t)
term_inj (num n) (num m) s t p = let a = cut (cut p).1 in (ap num a.0, a.1)
term_inj (var x) (var y) s t p = let q = name_inj x y s t (cut p).1 in (ap var q.0, q.1)
term_inj (prefix op a) (prefix op' b) s t p =
    let o = cut (cut p).1 in
    let q = term_inj a b s t o.1 in
    let same = unary_inj op op' o.0 in
    (λ i. prefix (same i) (q.0 i), q.1)
term_inj (infix' op a b) (infix' op' a' b') s t p =
    let o = cut (cut p).1 in
    let q = term_inj a a' _ _ o.1 in
    let r = term_inj b b' s t q.1 in
    let same = binary_inj op op' o.0 in
    (λ k. infix' (same k) (q.0 k) (r.0 k), r.1)
term_inj (element x i) (element y j) s t p =
    let q = name_inj x y _ _ (cut p).1 in
    let r = term_inj i j s t q.1 in
    (λ k. element (q.0 k) (r.0 k), r.1)
term_inj _ _ s t p = absurd (apart p refl)

-- the code by which a proof tells terms apart
abbrev pub term_coded : Coded Term
term_coded = record {
  code = λ x. (coded_list coded_ℕ).code (term_code x []);
  inj = λ x y p. (term_inj x y [] [] ((coded_list coded_ℕ).inj (term_code x []) (term_code y []) p)).0;
}
