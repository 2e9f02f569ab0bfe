-- The names in a term are those that it uses.
use Rattle.std.proofs.Common.{ℕ, ◌↔◌, inl, inr, List, [], ◌∷◌, Contains, sym, subst}
use Rattle.std.proofs.lemmas.List.Elements.{Contains-append_left, Contains-append_right, Contains-append_cases}
use Rattle.hpr_terms.specs.Term.{Term, num, var, prefix, infix', element}
use Rattle.hpr_terms.specs.Uses.{TermUses, names_in}
use Rattle.hpr_terms.proofs.Few.{contains_one, has_one}
use Rattle.hpr_terms.proofs.Facts.{in_none}

pub terms_used : (t : Term) (x : List ℕ) → Contains (names_in t) x ↔ TermUses t x
terms_used (num n) x = (in_none x, λ h. absurd h)
terms_used (var y) x =
    let P : List ℕ → Type 0 = λ z. Contains (y ∷ []) z in
    (contains_one y x, λ h. subst P (sym h) (has_one y))
terms_used (prefix op a) x = terms_used a x
terms_used (infix' op a b) x = (
  λ h. elim (Contains-append_cases (names_in a) (names_in b) x h) [ inl u ↦ inl ((terms_used a x).0 u) | inr u ↦ inr ((terms_used b x).0 u) ],
  λ h. elim h [
    | inl u ↦ Contains-append_left (names_in a) (names_in b) x ((terms_used a x).1 u)
    | inr u ↦ Contains-append_right (names_in a) (names_in b) x ((terms_used b x).1 u)
  ],
)
terms_used (element y i) x = (
  λ h. elim (Contains-append_cases (y ∷ []) (names_in i) x h) [ inl u ↦ inl (contains_one y x u) | inr u ↦ inr ((terms_used i x).0 u) ],
  λ h. elim h [
    | inl u ↦ (let P : List ℕ → Type 0 = λ z. Contains (y ∷ []) z in Contains-append_left (y ∷ []) (names_in i) x (subst P (sym u) (has_one y)))
    | inr u ↦ Contains-append_right (y ∷ []) (names_in i) x ((terms_used i x).1 u)
  ],
)
