-- There is one ascending list of the things of one kind.
use Rattle.std.proofs.Common.{◌≡◌, ℕ, zero, suc, ◌<◌, List, [], ◌∷◌, ◌++◌, Contains, ◌⊎◌, inl, inr, refl, sym, ap, ◌∙◌, subst, arith}
use Rattle.std.proofs.lemmas.List.Elements.{Contains-append_cases}
use Rattle.hpr_forest.specs.Lists.{LexLess, IsAscending}

-- behind a common front the first difference decides
pub less_behind : (q s t : List ℕ) (c d : ℕ) → c < d → LexLess (q ++ c ∷ s) (q ++ d ∷ t)
less_behind [] s t c d h = inl h
less_behind (a ∷ q) s t c d h = inr (refl, less_behind q s t c d h)

-- no list comes before itself
pub less_irreflexive : (s : List ℕ) → LexLess s s → ⊥
less_irreflexive [] h = h
less_irreflexive (a ∷ s) (inl less) = omega arith
less_irreflexive (a ∷ s) (inr (e, h)) = less_irreflexive s h

pub less_trans : (s t u : List ℕ) → LexLess s t → LexLess t u → LexLess s u
less_trans [] [] u h k = absurd h
less_trans [] (b ∷ t) [] h k = absurd k
less_trans [] (b ∷ t) (c ∷ u) h k = tt
less_trans (a ∷ s) [] u h k = absurd h
less_trans (a ∷ s) (b ∷ t) [] h k = absurd k
less_trans (a ∷ s) (b ∷ t) (c ∷ u) (inl h) (inl k) = inl (omega arith)
less_trans (a ∷ s) (b ∷ t) (c ∷ u) (inl h) (inr (e, k)) = inl (omega arith)
less_trans (a ∷ s) (b ∷ t) (c ∷ u) (inr (e, h)) (inl k) = inl (omega arith)
less_trans (a ∷ s) (b ∷ t) (c ∷ u) (inr (e, h)) (inr (e', k)) = inr (e ∙ e', less_trans s t u h k)

module _ {X : Type 0} where
  pub in_none : (x : X) → Contains [] x → ⊥
  in_none x h = omega (arith, h.1)

  pub in_cons : (x y : X) (xs : List X) → Contains (x ∷ xs) y → (x ≡ y) ⊎ Contains xs y
  in_cons x y xs (zero, h, e) = inl e
  in_cons x y xs (suc k, h, e) = inr (k, omega arith, e)

  pub in_first : (x : X) (xs : List X) → Contains (x ∷ xs) x
  in_first x xs = (0, omega arith, refl)

  pub in_later : (x y : X) (xs : List X) → Contains xs y → Contains (x ∷ xs) y
  in_later x y xs (k, h, e) = (suc k, omega arith, e)

  pub ascending_append : (Before : X → X → Type 0) (xs ys : List X) → IsAscending Before xs → IsAscending Before ys
      → ((x y : X) → Contains xs x → Contains ys y → Before x y) → IsAscending Before (xs ++ ys)
  ascending_append Before [] ys a b across = b
  ascending_append Before (x ∷ xs) ys a b across = (
    λ y h. elim (Contains-append_cases xs ys y h) [ inl l ↦ a.0 y l | inr r ↦ across x y (in_first x xs) r ],
    ascending_append Before xs ys a.1 b (λ x' y h k. across x' y (in_later x x' xs h) k),
  )

  -- two such lists of the same members are the same list
  pub one_list : (Before : X → X → Type 0) → ((x : X) → Before x x → ⊥) → ((x y z : X) → Before x y → Before y z → Before x z)
      → (xs ys : List X) → IsAscending Before xs → IsAscending Before ys
      → ((x : X) → Contains xs x → Contains ys x) → ((x : X) → Contains ys x → Contains xs x) → xs ≡ ys
  one_list Before irr trans [] [] a b to from = refl
  one_list Before irr trans [] (y ∷ ys) a b to from = absurd (in_none y (from y (in_first y ys)))
  one_list Before irr trans (x ∷ xs) [] a b to from = absurd (in_none x (to x (in_first x xs)))
  one_list Before irr trans (x ∷ xs) (y ∷ ys) a b to from =
      let same : x ≡ y = elim (in_cons y x ys (to x (in_first x xs))) [
        | inl e ↦ sym e
        | inr later ↦ elim (in_cons x y xs (from y (in_first y ys))) [
          | inl e ↦ e
          | inr later' ↦ absurd (irr x (trans x y x (a.0 y later') (b.0 x later)))
        ]
      ] in
      let rest : xs ≡ ys = one_list Before irr trans xs ys a.1 b.1
      (λ z h. elim (in_cons y z ys (to z (in_later x z xs h))) [
        | inl e ↦ absurd (irr x (subst (λ w. Before x w) (sym (same ∙ e)) (a.0 z h)))
        | inr later ↦ later
      ])
      (λ z h. elim (in_cons x z xs (from z (in_later y z ys h))) [
        | inl e ↦ absurd (irr y (subst (λ w. Before y w) (sym (sym same ∙ e)) (b.0 z h)))
        | inr later ↦ later
      ]) in
      ap (λ w. w ∷ xs) same ∙ ap (λ ws. y ∷ ws) rest
