-- What a part does depends on the names that it uses alone.
use Rattle.std.proofs.Common.{◌≡◌, ◌↔◌, ◌⊎◌, ℕ, List, [], ◌∷◌, ◌++◌, Contains, inl, inr, refl, sym, ap, subst}
use Rattle.std.proofs.lemmas.List.Elements.{Contains-append_left, Contains-append_right, Contains-append_cases}
use Rattle.hpr_terms.specs.TermOf.{term_of}
use Rattle.hpr_terms.specs.declared.expr.Expr.{Expr}
use Rattle.hpr_terms.specs.Uses.{Uses, names_in}
use Rattle.hpr_terms.proofs.Few.{contains_one, has_one}
use Rattle.hpr_terms.proofs.NamesUsed.{terms_used}
use Rattle.hpr_syntax.specs.declared.rows.Content.{Content}
use Rattle.hpr_syntax.specs.declared.rows.Content.TheVariants.{Assign, If, While, Write, Store}
use Rattle.hpr_syntax.specs.Values.{Values, value_at}
use Rattle.hpr_syntax.specs.Contents.{UsesIn, used_names, as_number, answer_of, number_or_zero, shown_of}
use Rattle.hpr_syntax.proofs.ValueByUses.{value_by_uses}

pub act_by_uses : (c : Content) (s t : Values) → ((x : List ℕ) → UsesIn c x → value_at s x ≡ value_at t x) → answer_of c s ≡ answer_of c t
act_by_uses (Assign y e) s t same = ap as_number (value_by_uses (term_of e) s t same)
act_by_uses (If e) s t same = ap as_number (value_by_uses (term_of e) s t same)
act_by_uses (While e) s t same = ap as_number (value_by_uses (term_of e) s t same)
act_by_uses (Write y e) s t same =
    let p = value_by_uses (term_of e) s t (λ x h. same x (inl h)) in
    let q = same y (inr refl) in
    rw (p, q) refl
act_by_uses (Store y i e) s t same =
    let p = value_by_uses (term_of i) s t (λ x h. same x (inl h)) in
    let q = value_by_uses (term_of e) s t (λ x h. same x (inr (inl h))) in
    let r = same y (inr (inr refl)) in
    rw (p, q, r) refl

-- so does the number by which it is shown
pub shown_by_uses : (c : Content) (s t : Values) → ((x : List ℕ) → UsesIn c x → value_at s x ≡ value_at t x) → shown_of c s ≡ shown_of c t
shown_by_uses (Assign y e) s t same = ap number_or_zero (value_by_uses (term_of e) s t same)
shown_by_uses (If e) s t same = ap number_or_zero (value_by_uses (term_of e) s t same)
shown_by_uses (While e) s t same = ap number_or_zero (value_by_uses (term_of e) s t same)
shown_by_uses (Write y e) s t same = ap number_or_zero (value_by_uses (term_of e) s t (λ x h. same x (inl h)))
shown_by_uses (Store y i e) s t same = ap number_or_zero (value_by_uses (term_of e) s t (λ x h. same x (inr (inl h))))

-- the names in an expression, and one name behind them
used_and : (e : Expr) (y x : List ℕ) → Contains (names_in (term_of e) ++ y ∷ []) x ↔ (Uses e x ⊎ (x ≡ y))
used_and e y x =
    let names = names_in (term_of e) in
    let u = terms_used (term_of e) x in (
      λ h. elim (Contains-append_cases names (y ∷ []) x h) [ inl i ↦ inl (u.0 i) | inr i ↦ inr (contains_one y x i) ],
      λ h. elim h [
        | inl i ↦ Contains-append_left names (y ∷ []) x (u.1 i)
        | inr i ↦ Contains-append_right names (y ∷ []) x (subst (λ (z : List ℕ). Contains (y ∷ []) z) (sym i) (has_one y))
      ],
    )

-- the names that a part uses, listed
pub uses_in : (c : Content) (x : List ℕ) → Contains (used_names c) x ↔ UsesIn c x
uses_in (Assign y e) x = terms_used (term_of e) x
uses_in (If e) x = terms_used (term_of e) x
uses_in (While e) x = terms_used (term_of e) x
uses_in (Write y e) x = used_and e y x
uses_in (Store y i e) x =
    let first = names_in (term_of i) in
    let more = names_in (term_of e) ++ y ∷ [] in
    let u = terms_used (term_of i) x in
    let v = used_and e y x in (
      λ h. elim (Contains-append_cases first more x h) [ inl j ↦ inl (u.0 j) | inr j ↦ inr (v.0 j) ],
      λ h. elim h [
        | inl j ↦ Contains-append_left first more x (u.1 j)
        | inr j ↦ Contains-append_right first more x (v.1 j)
      ],
    )
