-- Lists that have whatever has some property.
--
-- IsGathered P == a list that has each x with P
use Rattle.std.proofs.Common.{◌≡◌, ◌⊎◌, inl, inr, List, [], ◌∷◌, ◌++◌, Contains, sym, subst}
use Rattle.std.proofs.lemmas.List.Elements.{Contains-append_left, Contains-append_right}
use Rattle.hpr_terms.proofs.Facts.{in_none, in_cons, in_here}

abbrev pub IsGathered : {X : Type 0} → (X → Type 0) → Type 0
IsGathered {X} P = (xs : List X) × ((x : X) → P x → Contains xs x)

module _ {X : Type 0} where
  pub of_none : IsGathered {X = X} (λ x. ⊥)
  of_none = ([], λ x p. absurd p)

  pub of_one : (y : X) → IsGathered {X = X} (λ x. x ≡ y)
  of_one y = (y ∷ [], λ x e. subst (λ (z : X). Contains (y ∷ []) z) (sym e) (in_here y []))

  pub of_within : (P R : X → Type 0) → ((x : X) → P x → R x) → IsGathered R → IsGathered P
  of_within P R i (xs, all) = (xs, λ x p. all x (i x p))

  pub of_either : (P R : X → Type 0) → IsGathered P → IsGathered R → IsGathered (λ x. P x ⊎ R x)
  of_either P R (xs, all) (ys, more) = (xs ++ ys, λ x e. elim e [ inl h ↦ Contains-append_left xs ys x (all x h) | inr h ↦ Contains-append_right xs ys x (more x h) ])

  pub of_list : (xs : List X) → IsGathered (λ (x : X). Contains xs x)
  of_list xs = (xs, λ x h. h)

module _ {X Y : Type 0} where
  gathered : (ys : List Y) (B : Y → X → Type 0) → ((y : Y) → IsGathered (B y)) → (zs : List X) × ((y : Y) → Contains ys y → (x : X) → B y x → Contains zs x)
  gathered [] B b = ([], λ y there x at. absurd (in_none y there))
  gathered (y ∷ ys) B b =
      let (zs, all) = gathered ys B b in
      let (ws, some) = b y in (
        ws ++ zs,
        λ z there x at. elim (in_cons y z ys there) [
          | inl e ↦ Contains-append_left ws zs x (some x (subst (λ (v : Y). B v x) (sym e) at))
          | inr later ↦ Contains-append_right ws zs x (all z later x at)
        ],
      )

  pub of_each : (A : Y → Type 0) (B : Y → X → Type 0) → IsGathered A → ((y : Y) → IsGathered (B y)) → IsGathered (λ (x : X). (y : Y) × A y × B y x)
  of_each A B (ys, listed) b = let (zs, all) = gathered ys B b in (zs, λ x (y, there, at). all y (listed y there) x at)
