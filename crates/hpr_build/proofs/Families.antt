-- What is added for one item of a list after another.
use Rattle.std.proofs.Common.{◌≡◌, ℕ, ◌+◌, ◌<◌, ◌≤◌, List, [], length, take, get_or, Contains, ◌↔◌, ◌⊎◌, inl, inr, refl, sym, subst}
use Rattle.std.proofs.lemmas.List.{take_all}
use Rattle.hpr_terms.proofs.Facts.{taken_item}
use Rattle.hpr_graph.specs.Graphs.{IsOnce}
use Rattle.hpr_graph.proofs.Lists.{in_none, not_before}
use Rattle.hpr_build.proofs.Once.{taken_among}

-- some item of the list has P
abbrev pub SomeOf : {X : Type 0} → List X → (X → Type 0) → Type 0
SomeOf {X} xs P = (x : X) × Contains xs x × P x

pub begun_family : {X : Type 0} (P : X → Type 0) (A : Type 0) → A ↔ (A ⊎ SomeOf [] P)
begun_family {X} P A = (λ h. inl h, λ h. elim h [ inl was ↦ was | inr (x, t, p) ↦ absurd (in_none x t) ])

module _ {X : Type 0} (xs : List X) (P : X → Type 0) (k : ℕ) (A O : Type 0) (old : A ↔ (O ⊎ SomeOf (take k xs) P)) where
  pub whole_family : length xs ≤ k → A ↔ (O ⊎ SomeOf xs P)
  whole_family l = subst (λ (ys : List X). A ↔ (O ⊎ SomeOf ys P)) (take_all k xs l) old

  module _ (x : X) (here : k < length xs) (is : x ≡ get_or xs k x) where
    pub turn_family : (A' : Type 0) → A' ↔ (A ⊎ P x) → A' ↔ (O ⊎ SomeOf (take (k + 1) xs) P)
    turn_family A' new = (
      (λ h. elim (new.0 h) [
        | inl a ↦ (elim (old.0 a) [ inl o ↦ inl o | inr (y, t, p) ↦ inr (y, (taken_item xs k x y here is).1 (inl t), p) ])
        | inr p ↦ inr (x, (taken_item xs k x x here is).1 (inr refl), p)
      ]),
      (λ h. elim h [
        | inl o ↦ new.1 (inl (old.1 (inl o)))
        | inr (y, t, p) ↦ (elim ((taken_item xs k x y here is).0 t) [
          | inl was ↦ new.1 (inl (old.1 (inr (y, was, p))))
          | inr e ↦ new.1 (inr (subst P (sym e) p))
        ])
      ]),
    )

    -- what is had by no other item isn't there yet
    pub fresh_family : IsOnce xs → (O → ¬ P x) → ((y : X) → Contains xs y → P y → P x → y ≡ x) → A → ¬ P x
    fresh_family once fresh one a p = elim (old.0 a) [
      | inl o ↦ fresh o p
      | inr (y, t, q) ↦ not_before xs k x once here is (subst (Contains (take k xs)) (one y (taken_among xs k y t) q p) t)
    ]

pub other_family : (A O B C : Type 0) → (B → C) → (C → B) → A ↔ (O ⊎ B) → A ↔ (O ⊎ C)
other_family A O B C to from h = (
  (λ a. elim (h.0 a) [ inl o ↦ inl o | inr b ↦ inr (to b) ]),
  (λ s. elim s [ inl o ↦ h.1 (inl o) | inr c ↦ h.1 (inr (from c)) ]),
)
