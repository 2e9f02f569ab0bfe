-- The test by the open parent is the test by what is behind the parent.
use Rattle.std.proofs.Common.{◌≡◌, ℕ, Bool, true, false, cond, ltb, Option, Some, None, List, [], ◌∷◌, ◌++◌, Contains, inl, inr, refl, sym, ap, ◌∙◌, subst}
use Rattle.std.proofs.lemmas.List.Elements.{Contains-append_right}
use Rattle.std.proofs.lemmas.Bool.{cases_Bool, eqb-true, eq-eqb}
use Rattle.hpr_forest.specs.Choices.{Follows}
use Rattle.hpr_forest.proofs.Unique.{in_none, in_cons, in_first}
use Rattle.hpr_forest.specs.Forest.{Forest, IsForest, is_in, all_in, behind, can}
use Rattle.hpr_forest.specs.Forest as forest
use Rattle.hpr_forest.specs.Open.{same_parent, or_this, open_in, can_under}
use Rattle.hpr_forest.proofs.Members.{IsDistinct, is_in-true, is_in-false, all_in-true}
use Rattle.hpr_forest.proofs.May.{behind_split, behind_has, follows_once}

same-true : (u v : Option ℕ) → same_parent u v ≡ true → u ≡ v
same-true None None e = refl
same-true None (Some b) e = absurd cc
same-true (Some a) None e = absurd cc
same-true (Some a) (Some b) e = ap Some (eqb-true a b e)

true_same : (u : Option ℕ) → same_parent u u ≡ true
true_same None = refl
true_same (Some a) = eq-eqb a a refl

-- two tests that follow from one another
both : (a b : Bool) → (a ≡ true → b ≡ true) → (b ≡ true → a ≡ true) → a ≡ b
both true true f g = refl
both true false f g = sym (f refl)
both false true f g = g refl
both false false f g = refl

once_out : (l r : List ℕ) (x : ℕ) → IsDistinct (l ++ x ∷ r) → Contains l x → ⊥
once_out [] r x once h = in_none x h
once_out (y ∷ l) r x once h = elim (in_cons y x l h) [
  | inl e ↦ once.0 (subst (λ w. Contains (l ++ x ∷ r) w) (sym e) (Contains-append_right l (x ∷ r) x (in_first x r)))
  | inr later ↦ once_out l r x once.1 later
]

module _ (f : Forest) (q : List ℕ) where
  abbrev full : List ℕ → Bool
  full = forest.all_full f q

  -- nothing open: all is full
  none_full : (xs : List ℕ) → open_in f q xs ≡ None → full xs ≡ true
  none_full [] e = refl
  none_full (x ∷ xs) e = at (all_in q (f.children x)) refl (open_in f q xs) refl e (none_full xs)
    where
      at : (t : Bool) → all_in q (f.children x) ≡ t → (o : Option ℕ) → open_in f q xs ≡ o → or_this t x o ≡ None → (open_in f q xs ≡ None → full xs ≡ true) → cond (all_in q (f.children x)) (full xs) false ≡ true
      at t is (Some y) o e' rest = absurd cc
      at false is None o e' rest = absurd cc
      at true is None o e' rest = ap (λ b. cond b (full xs) false) is ∙ rest o

  pub full_none : (xs : List ℕ) → full xs ≡ true → open_in f q xs ≡ None
  full_none [] e = refl
  full_none (x ∷ xs) e = at (all_in q (f.children x)) refl e (full_none xs)
    where
      at : (t : Bool) → all_in q (f.children x) ≡ t → cond t (full xs) false ≡ true → (full xs ≡ true → open_in f q xs ≡ None) → or_this (all_in q (f.children x)) x (open_in f q xs) ≡ None
      at true is e' rest = ap (λ o. or_this (all_in q (f.children x)) x o) (rest e') ∙ ap (λ b. or_this b x None) is
      at false is e' rest = absurd cc

  -- what is open is the last item that isn't full
  open_split : (xs : List ℕ) (p : ℕ) → open_in f q xs ≡ Some p → (l r : List ℕ) × (xs ≡ l ++ p ∷ r) × (full r ≡ true)
  open_split [] p e = absurd cc
  open_split (x ∷ xs) p e = at (all_in q (f.children x)) (open_in f q xs) refl e (open_split xs p)
    where
      at : (t : Bool) (o : Option ℕ) → open_in f q xs ≡ o → or_this t x o ≡ Some p → (open_in f q xs ≡ Some p → (l r : List ℕ) × (xs ≡ l ++ p ∷ r) × (full r ≡ true)) → (l r : List ℕ) × (x ∷ xs ≡ l ++ p ∷ r) × (full r ≡ true)
      at t (Some y) o e' rest = let (l, r, k, h) = rest (o ∙ e') in (x ∷ l, r, ap (λ w. x ∷ w) k, h)
      at true None o e' rest = absurd cc
      at false None o e' rest = let same : x ≡ p = cc in ([], xs, ap (λ w. w ∷ xs) same, none_full xs o)

  -- what is open in the back of a list is open in the whole
  pub open_more : (l r : List ℕ) (p : ℕ) → open_in f q r ≡ Some p → open_in f q (l ++ r) ≡ Some p
  open_more [] r p e = e
  open_more (x ∷ l) r p e = ap (λ o. or_this (all_in q (f.children x)) x o) (open_more l r p e)

  pub open_here : (p : ℕ) (r : List ℕ) → full r ≡ true → all_in q (f.children p) ≡ false → open_in f q (p ∷ r) ≡ Some p
  open_here p r e no_ = ap (λ o. or_this (all_in q (f.children p)) p o) (full_none r e) ∙ ap (λ b. or_this b p None) no_

  under_open : IsForest f → IsDistinct q → (c : ℕ) → (Contains q c → ⊥) → forest.is_under f q (f.parent c) ≡ same_parent (open_in f q q) (f.parent c)
  under_open it once c out = at (f.parent c) refl
    where
      at : (v : Option ℕ) → f.parent c ≡ v → forest.is_under f q v ≡ same_parent (open_in f q q) v
      at None is = both (full q) (same_parent (open_in f q q) None)
          (λ e. ap (λ o. same_parent o None) (full_none q e))
          (λ e. none_full q (same-true (open_in f q q) None e))
      at (Some p) is = both (forest.full_behind f q (behind p q)) (same_parent (open_in f q q) (Some p))
          (λ e. forth (behind p q) refl e)
          (λ e.
          let (l, r, k, h) = open_split q p (same-true (open_in f q q) (Some p) e) in
          let b : behind p q ≡ Some r = ap (behind p) k ∙ behind_split f l r p (once_out l r p (subst IsDistinct k once)) in
          ap (λ o. forest.full_behind f q o) b ∙ h)
        where
          not_full : all_in q (f.children p) ≡ false
          not_full = elim (cases_Bool (all_in q (f.children p))) [
            | inl e ↦ absurd (out (all_in-true q (f.children p) e c (is_in-true (f.children p) c (it.up p c is))))
            | inr e ↦ e
          ]

          forth : (o : Option (List ℕ)) → behind p q ≡ o → forest.full_behind f q o ≡ true → same_parent (open_in f q q) (Some p) ≡ true
          forth None b e = absurd cc
          forth (Some r) b e =
              let (l, k) = behind_has f q r p b in
              let o : open_in f q q ≡ Some p = ap (open_in f q) k ∙ open_more l (p ∷ r) p (open_here p r e not_full) in
              ap (λ u. same_parent u (Some p)) o ∙ true_same (Some p)

  pub can_by_open : IsForest f → Follows (can f) [] q → (c : ℕ) → can_under f q (open_in f q q) c ≡ can f q c
  can_by_open it fq c = at (is_in q c) refl
    where
      at : (t : Bool) → is_in q c ≡ t → can_under f q (open_in f q q) c ≡ can f q c
      at true is = ap (λ b. cond (ltb c f.count) (cond b false (cond (same_parent (open_in f q q) (f.parent c)) (all_in q (f.before c)) false)) false) is
          ∙ sym (ap (λ b. cond (ltb c f.count) (cond b false (cond (forest.is_under f q (f.parent c)) (all_in q (f.before c)) false)) false) is)
      at false is = ap (λ b. cond (ltb c f.count) (cond (is_in q c) false (cond b (all_in q (f.before c)) false)) false)
          (sym (under_open it (follows_once f [] q fq).1 c (is_in-false q c is)))
