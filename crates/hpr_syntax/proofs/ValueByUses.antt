-- A value depends on the names that are used alone.
use Rattle.std.proofs.Common.{◌≡◌, ℕ, List, refl, ap, inl, inr, Ok}
use Rattle.hpr_terms.specs.Term.{Term, num, var, prefix, infix', element}
use Rattle.hpr_terms.specs.Uses.{TermUses}
use Rattle.hpr_syntax.specs.Values.{Values, number_in, elements_in, value_at}
use Rattle.hpr_syntax.specs.Value.{term_value, with_value, apply_unary, apply_binary, element_at}

pub value_by_uses : (e : Term) (s t : Values) → ((x : List ℕ) → TermUses e x → value_at s x ≡ value_at t x) → term_value e s ≡ term_value e t
value_by_uses (num n) s t same = refl
value_by_uses (var x) s t same = ap (λ v. Ok (number_in v)) (same x refl)
value_by_uses (prefix op a) s t same = ap (λ v. with_value v (apply_unary op)) (value_by_uses a s t same)
value_by_uses (infix' op a b) s t same =
    let p = value_by_uses a s t (λ x h. same x (inl h)) in
    let q = value_by_uses b s t (λ x h. same x (inr h)) in
    λ k. with_value (p k) (λ x. with_value (q k) (apply_binary op x))
value_by_uses (element x i) s t same =
    let p = value_by_uses i s t (λ y h. same y (inr h)) in
    let q = same x (inl refl) in
    λ k. with_value (p k) (λ z. element_at z (elements_in (q k)))
