-- Marks as the list grows and shrinks.
use Rattle.std.proofs.Common.{◌≡◌, ℕ, ◌<◌, Bool, true, false, cond, eqb, List, [], ◌∷◌, ◌++◌, length, set, get_or, inl, inr, refl, sym, ap, ◌∙◌, subst, get_or-set_same, get_or-set_other}
use Rattle.std.proofs.lemmas.Bool.{cases_eq, eq-eqb, ne_eqb}
use Rattle.hpr_forest.specs.Marks.{is_in, IsMarksOf}

pub push_same : (q : List ℕ) (c : ℕ) → is_in (q ++ c ∷ []) c ≡ true
push_same [] c = ap (λ b. cond b true false) (eq-eqb c c refl)
push_same (x ∷ q) c = at (eqb x c) (push_same q c)
  where
    at : (t : Bool) → is_in (q ++ c ∷ []) c ≡ true → cond t true (is_in (q ++ c ∷ []) c) ≡ true
    at true e = refl
    at false e = e

pub push_other : (q : List ℕ) (c x : ℕ) → (x ≡ c → ⊥) → is_in (q ++ c ∷ []) x ≡ is_in q x
push_other [] c x ne = ap (λ b. cond b true false) (ne_eqb c x (λ e. ne (sym e)))
push_other (y ∷ q) c x ne = ap (λ b. cond (eqb y x) true b) (push_other q c x ne)

pub marks_push : (marks marks' : List Bool) (q q' : List ℕ) (c : ℕ) → c < length marks → IsMarksOf marks q → marks' ≡ set marks c true → q' ≡ q ++ c ∷ [] → IsMarksOf marks' q'
marks_push marks marks' q q' c h m e e' x = elim (cases_eq x c) [
  | inl same ↦ subst (λ y. get_or marks' y false ≡ is_in q' y) (sym same)
      (ap (λ r. get_or r c false) e ∙ get_or-set_same marks c true false h ∙ sym (ap (λ r. is_in r c) e' ∙ push_same q c))
  | inr ne ↦ ap (λ r. get_or r x false) e ∙ get_or-set_other marks c x true false ne ∙ m x ∙ sym (ap (λ r. is_in r x) e' ∙ push_other q c x ne)
]

pub marks_pop : (marks marks' : List Bool) (q old : List ℕ) (c : ℕ) → c < length marks → IsMarksOf marks old → old ≡ q ++ c ∷ [] → is_in q c ≡ false → marks' ≡ set marks c false → IsMarksOf marks' q
marks_pop marks marks' q old c h m e out e' x = elim (cases_eq x c) [
  | inl same ↦ subst (λ y. get_or marks' y false ≡ is_in q y) (sym same)
      (ap (λ r. get_or r c false) e' ∙ get_or-set_same marks c false false h ∙ sym out)
  | inr ne ↦ ap (λ r. get_or r x false) e' ∙ get_or-set_other marks c x false false ne ∙ m x ∙ ap (λ r. is_in r x) e ∙ push_other q c x ne
]
