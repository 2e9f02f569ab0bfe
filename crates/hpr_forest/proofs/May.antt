-- What the test `can` says.
use Rattle.std.proofs.Common.{◌≡◌, ℕ, ◌<◌, Bool, true, false, cond, eqb, ltb, Option, Some, None, List, [], ◌∷◌, ◌++◌, Contains, inl, inr, refl, sym, ap, ◌∙◌, subst, append_assoc}
use Rattle.std.proofs.lemmas.List.Elements.{Contains-append_left, Contains-append_right}
use Rattle.std.proofs.lemmas.List.{append-nil}
use Rattle.std.proofs.lemmas.Bool.{ltb-true, lt-ltb, eqb-true, eq-eqb, ne_eqb}
use Rattle.hpr_forest.specs.Choices.{Follows}
use Rattle.hpr_forest.proofs.Unique.{in_none, in_cons, in_first, in_later}
use Rattle.hpr_forest.specs.Forest.{Forest, is_in, all_in, behind}
use Rattle.hpr_forest.specs.Forest as forest
use Rattle.hpr_forest.proofs.Members.{IsDistinct, is_in-false, out_is_in, all_in-true, in_all_in, cond_parts}

module _ (f : Forest) where
  abbrev pub can : List ℕ → ℕ → Bool
  can = forest.can f

  -- all that stands under one of the items is placed
  abbrev pub IsFull : List ℕ → List ℕ → Type 0
  IsFull placed xs = (x : ℕ) → Contains xs x → (y : ℕ) → Contains (f.children x) y → Contains placed y

  abbrev pub IsUnder : List ℕ → Option ℕ → Type 0
  IsUnder placed None = IsFull placed placed
  IsUnder placed (Some p) = (xs : List ℕ) × (behind p placed ≡ Some xs) × IsFull placed xs

  pub record May (placed : List ℕ) (c : ℕ) : Type 0 where
    pub within : c < f.count
    pub fresh : Contains placed c → ⊥
    pub under : IsUnder placed (f.parent c)
    pub ready : (d : ℕ) → Contains (f.before c) d → Contains placed d

  full-true : (q xs : List ℕ) → forest.all_full f q xs ≡ true → IsFull q xs
  full-true q [] e x h y k = absurd (in_none x h)
  full-true q (z ∷ xs) e x h y k =
      let (a, b) = cond_parts (all_in q (f.children z)) (forest.all_full f q xs) e in
      elim (in_cons z x xs h) [
        | inl same ↦ all_in-true q (f.children z) a y (subst (λ w. Contains (f.children w) y) (sym same) k)
        | inr later ↦ full-true q xs b x later y k
      ]

  pub true_full : (q xs : List ℕ) → IsFull q xs → forest.all_full f q xs ≡ true
  true_full q [] full = refl
  true_full q (z ∷ xs) full = rw (in_all_in q (f.children z) (full z (in_first z xs))) (true_full q xs (λ x h. full x (in_later z x xs h)))

  under-true : (q : List ℕ) (p : Option ℕ) → forest.is_under f q p ≡ true → IsUnder q p
  under-true q None e = full-true q q e
  under-true q (Some p) e = at (behind p q) refl e
    where
      at : (o : Option (List ℕ)) → behind p q ≡ o → forest.full_behind f q o ≡ true → (xs : List ℕ) × (behind p q ≡ Some xs) × IsFull q xs
      at None is e' = absurd cc
      at (Some xs) is e' = (xs, is, full-true q xs e')

  true_under : (q : List ℕ) (p : Option ℕ) → IsUnder q p → forest.is_under f q p ≡ true
  true_under q None u = true_full q q u
  true_under q (Some p) (xs, e, full) = rw e (true_full q xs full)

  pub may-from : (q : List ℕ) (c : ℕ) → can q c ≡ true → May q c
  may-from q c e =
      let (a, b) = cond_parts (ltb c f.count) _ e in
      at (is_in q c) refl a b
    where
      at : (t : Bool) → is_in q c ≡ t → ltb c f.count ≡ true → cond t false (cond (forest.is_under f q (f.parent c)) (all_in q (f.before c)) false) ≡ true → May q c
      at true is a e' = absurd cc
      at false is a e' =
          let (u, r) = cond_parts (forest.is_under f q (f.parent c)) (all_in q (f.before c)) e' in
          record { within = ltb-true c f.count a; fresh = is_in-false q c is; under = under-true q (f.parent c) u; ready = all_in-true q (f.before c) r }

  pub from-may : (q : List ℕ) (c : ℕ) → May q c → can q c ≡ true
  from-may q c m = rw (lt-ltb c f.count m.within, out_is_in q c m.fresh, true_under q (f.parent c) m.under) (in_all_in q (f.before c) m.ready)

  -- the items of a list that follows are new and different
  pub follows_once : (p l : List ℕ) → Follows can p l → ((x : ℕ) → Contains p x → Contains l x → ⊥) × IsDistinct l
  follows_once p [] f' = (λ x h k. in_none x k, tt)
  follows_once p (c ∷ l) f' =
      let (apart, once) = follows_once (p ++ c ∷ []) l f'.1 in (
        λ x h k. elim (in_cons c x l k) [
          | inl e ↦ (may-from p c f'.0).fresh (subst (λ w. Contains p w) (sym e) h)
          | inr later ↦ apart x (Contains-append_left p (c ∷ []) x h) later
        ],
        (λ h. apart c (Contains-append_right p (c ∷ []) c (in_first c [])) h, once),
      )

  pub follows_within : (p l : List ℕ) → Follows can p l → (x : ℕ) → Contains l x → x < f.count
  follows_within p [] f' x h = absurd (in_none x h)
  follows_within p (c ∷ l) f' x h = elim (in_cons c x l h) [
    | inl e ↦ subst (λ w. w < f.count) e (may-from p c f'.0).within
    | inr later ↦ follows_within (p ++ c ∷ []) l f'.1 x later
  ]

  pub follows_at : (p l1 l2 : List ℕ) (c : ℕ) → Follows can p (l1 ++ c ∷ l2) → can (p ++ l1) c ≡ true
  follows_at p [] l2 c f' = subst (λ (x : List ℕ). can x c ≡ true) (sym (append-nil p)) f'.0
  follows_at p (d ∷ l1) l2 c f' = subst (λ (x : List ℕ). can x c ≡ true) (append_assoc p (d ∷ []) l1) (follows_at (p ++ d ∷ []) l1 l2 c f'.1)

  -- what stands behind an item of a list without repeats
  pub behind_split : (l r : List ℕ) (p : ℕ) → (Contains l p → ⊥) → behind p (l ++ p ∷ r) ≡ Some r
  behind_split [] r p out = rw (eq-eqb p p refl) refl
  behind_split (x ∷ l) r p out = rw (ne_eqb x p (λ e. out (subst (λ w. Contains (x ∷ l) w) e (in_first x l)))) (behind_split l r p (λ h. out (in_later x p l h)))

  pub behind_has : (q xs : List ℕ) (p : ℕ) → behind p q ≡ Some xs → (l : List ℕ) × (q ≡ l ++ p ∷ xs)
  behind_has [] xs p e = absurd cc
  behind_has (x ∷ q) xs p e = at (eqb x p) refl (behind_has q xs p) e
    where
      at : (t : Bool) → eqb x p ≡ t → (behind p q ≡ Some xs → (l : List ℕ) × (q ≡ l ++ p ∷ xs)) → cond t (Some q) (behind p q) ≡ Some xs → (l : List ℕ) × (x ∷ q ≡ l ++ p ∷ xs)
      at true is rest e' = let same : q ≡ xs = cc in ([], ap (λ w. w ∷ q) (eqb-true x p is) ∙ ap (λ ws. p ∷ ws) same)
      at false is rest e' = let (l, k) = rest e' in (x ∷ l, ap (λ ws. x ∷ ws) k)
