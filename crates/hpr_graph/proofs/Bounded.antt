-- What lies within bounds: that a list has exactly these can't be refuted.
--
-- Bounded P == it can't be refuted that a list has each x with P
use Rattle.std.proofs.Common.{◌≡◌, ◌↔◌, inl, inr, ◌⊎◌, List, [], ◌∷◌, ◌++◌, Contains, sym, subst}
use Rattle.std.proofs.lemmas.List.Elements.{Contains-append_left, Contains-append_right}
use Rattle.hpr_terms.proofs.Facts.{by_both, in_none, in_cons, in_here, in_later}

abbrev pub Bounded : {X : Type 0} → (X → Type 0) → Type 0
Bounded {X} P = ¬ (¬ ((xs : List X) × ((x : X) → P x → Contains xs x)))

module _ {X : Type 0} where
  pub of_none : Bounded {X = X} (λ x. ⊥)
  of_none n = n ([], λ x p. absurd p)

  pub of_one : (y : X) → Bounded {X = X} (λ x. x ≡ y)
  of_one y n = n (y ∷ [], λ x e. subst (λ (z : X). Contains (y ∷ []) z) (sym e) (in_here y []))

  pub of_within : (P R : X → Type 0) → ((x : X) → P x → R x) → Bounded R → Bounded P
  of_within P R i r n = r (λ (xs, all). n (xs, λ x p. all x (i x p)))

  pub of_either : (P R : X → Type 0) → Bounded P → Bounded R → Bounded (λ x. P x ⊎ R x)
  of_either P R p r n =
      p (λ (xs, all). r (λ (ys, more). n (xs ++ ys, λ x e. elim e [ inl h ↦ Contains-append_left xs ys x (all x h) | inr h ↦ Contains-append_right xs ys x (more x h) ])))

  pub of_list : (xs : List X) → Bounded (λ (x : X). Contains xs x)
  of_list xs n = n (xs, λ x h. h)

  -- what no two things have lies within bounds
  pub of_alone : (P : X → Type 0) → ((x y : X) → P x → P y → x ≡ y) → Bounded P
  of_alone P one =
      by_both ((x : X) × P x) ((xs : List X) × ((x : X) → P x → Contains xs x))
      (λ some n. n (some.0 ∷ [], λ x h. subst (λ (y : X). Contains (some.0 ∷ []) y) (one some.0 x some.1 h) (in_here some.0 [])))
      (λ none n. n ([], λ x h. absurd (none (x, h))))

  -- those of a list with P
  abbrev AreThose : List X → (X → Type 0) → List X → Type 0
  AreThose xs P ys = (x : X) → Contains ys x ↔ (Contains xs x × P x)

  those_none : (P : X → Type 0) → AreThose [] P []
  those_none P x = (λ there. absurd (in_none x there), λ (there, p). absurd (in_none x there))

  those_with : (y : X) (xs ys : List X) (P : X → Type 0) → P y → AreThose xs P ys → AreThose (y ∷ xs) P (y ∷ ys)
  those_with y xs ys P p those x = (
    λ there. elim (in_cons y x ys there) [
      | inl e ↦ (subst (λ (z : X). Contains (y ∷ xs) z) e (in_here y xs), subst P e p)
      | inr later ↦ (let (was, px) = (those x).0 later in (in_later y x xs was, px))
    ],
    λ (there, px). elim (in_cons y x xs there) [
      | inl e ↦ subst (λ (z : X). Contains (y ∷ ys) z) e (in_here y ys)
      | inr later ↦ in_later y x ys ((those x).1 (later, px))
    ],
  )

  those_without : (y : X) (xs ys : List X) (P : X → Type 0) → ¬ P y → AreThose xs P ys → AreThose (y ∷ xs) P ys
  those_without y xs ys P none those x = (
    λ there. (let (was, px) = (those x).0 there in (in_later y x xs was, px)),
    λ (there, px). elim (in_cons y x xs there) [
      | inl e ↦ absurd (none (subst P (sym e) px))
      | inr later ↦ (those x).1 (later, px)
    ],
  )

  some_those : (xs : List X) (P : X → Type 0) → ¬ (¬ ((ys : List X) × AreThose xs P ys))
  some_those [] P n = n ([], those_none P)
  some_those (y ∷ xs) P n =
      some_those xs P (λ (ys, those).
      by_both (P y) ((zs : List X) × AreThose (y ∷ xs) P zs)
      (λ p k. k (y ∷ ys, those_with y xs ys P p those)) (λ none k. k (ys, those_without y xs ys P none those)) n)

  -- a list of exactly what lies within bounds
  pub listed_of : (P : X → Type 0) → Bounded P → ¬ (¬ ((ys : List X) × ((x : X) → Contains ys x ↔ P x)))
  listed_of P r n = r (λ (xs, all). some_those xs P (λ (ys, those). n (ys, λ x. (λ there. ((those x).0 there).1, λ p. (those x).1 (all x p, p)))))

module _ {X Y : Type 0} where
  gathered : (ys : List Y) (A : Y → Type 0) (B : Y → X → Type 0) → ((y : Y) → A y → Bounded (B y))
      → ¬ (¬ ((zs : List X) × ((y : Y) → Contains ys y → A y → (x : X) → B y x → Contains zs x)))
  gathered [] A B b n = n ([], λ y there a x at. absurd (in_none y there))
  gathered (y ∷ ys) A B b n =
      gathered ys A B b (λ (zs, all).
      by_both (A y) ((zs : List X) × ((z : Y) → Contains (y ∷ ys) z → A z → (x : X) → B z x → Contains zs x))
      (λ a k.
      b y a (λ (ws, some).
      k (
        ws ++ zs,
        λ z there az x at. elim (in_cons y z ys there) [
          | inl e ↦ Contains-append_left ws zs x (some x (subst (λ (v : Y). B v x) (sym e) at))
          | inr later ↦ Contains-append_right ws zs x (all z later az x at)
        ],
      )))
      (λ none k. k (zs, λ z there az x at. elim (in_cons y z ys there) [ inl e ↦ absurd (none (subst A (sym e) az)) | inr later ↦ all z later az x at ]))
      n)

  pub of_each : (A : Y → Type 0) (B : Y → X → Type 0) → Bounded A → ((y : Y) → A y → Bounded (B y)) → Bounded (λ (x : X). (y : Y) × A y × B y x)
  of_each A B a b n = a (λ (ys, listed). gathered ys A B b (λ (zs, all). n (zs, λ x (y, there, at). all y (listed y there) there x at)))
