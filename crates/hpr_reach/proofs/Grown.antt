-- What a list contains after one more turn.
use Rattle.std.proofs.Common.{◌≡◌, ℕ, ◌+◌, ◌<◌, ◌≤◌, Bool, List, [], ◌∷◌, ◌++◌, length, take, get_or, Contains, IsTrue, ◌↔◌, ◌⊎◌, inl, inr, sym, subst, arith, false}
use Rattle.std.proofs.lemmas.Bool.{cases_eq, both_ways}
use Rattle.std.proofs.lemmas.List.{take_all}
use Rattle.std.proofs.lemmas.List.Elements.{Contains-push, Contains-push_cases, Contains-append_left}
use Rattle.hpr_terms.proofs.Facts.{taken_item}
pub use Rattle.hpr_reach.specs.Live.{Below}

pub below_split : (P : ℕ → Type 0) (n : ℕ) → Below P (n + 1) ↔ (Below P n ⊎ P n)
below_split P n = (
  (λ (p, l, h). elim (cases_eq p n) [ inl e ↦ inr (subst P e h) | inr ne ↦ inl (p, omega (arith, l), h) ]),
  (λ h. elim h [ inl (p, l, k) ↦ (p, omega (arith, l), k) | inr k ↦ (n, omega arith, k) ]),
)

pub pushed : {X : Type 0} (xs : List X) (y x : X) → Contains (xs ++ y ∷ []) x ↔ (Contains xs x ⊎ (y ≡ x))
pushed {X} xs y x = (
  (λ h. Contains-push_cases xs y x h),
  (λ h. elim h [ inl was ↦ Contains-append_left xs (y ∷ []) x was | inr e ↦ subst (λ (z : X). Contains (xs ++ y ∷ []) z) e (Contains-push xs y) ]),
)

-- a list that took y where the test holds
pub pushed_if : {X : Type 0} (xs : List X) (y x : X) (t : Bool) → IsTrue t → Contains (xs ++ y ∷ []) x ↔ (Contains xs x ⊎ (IsTrue t × (y ≡ x)))
pushed_if xs y x t on = (
  (λ h. elim ((pushed xs y x).0 h) [ inl o ↦ inl o | inr e ↦ inr (on, e) ]),
  (λ h. elim h [ inl o ↦ (pushed xs y x).1 (inl o) | inr e ↦ (pushed xs y x).1 (inr e.1) ]),
)

pub kept_if : {X : Type 0} (xs : List X) (y x : X) (t : Bool) → t ≡ false → Contains xs x ↔ (Contains xs x ⊎ (IsTrue t × (y ≡ x)))
kept_if xs y x t off = (
  (λ h. inl h),
  (λ h. elim h [ inl o ↦ o | inr e ↦ absurd (both_ways t off e.0) ]),
)

module _ {X : Type 0} (xs : List X) (i : ℕ) (y x : X) (P : X → Type 0) (t : Bool) (here : i < length xs) (is : y ≡ get_or xs i y) (test : IsTrue t ↔ P y) where
  -- the list, with the next element of xs where that passes the test
  pub turn_of_list : (A A' O : Type 0) → A' ↔ (A ⊎ (IsTrue t × (y ≡ x))) → A ↔ (O ⊎ (Contains (take i xs) x × P x)) → A' ↔ (O ⊎ (Contains (take (i + 1) xs) x × P x))
  turn_of_list A A' O new old = (
    (λ h. elim (new.0 h) [
      | inl a ↦ (elim (old.0 a) [ inl o ↦ inl o | inr k ↦ inr ((taken_item xs i y x here is).1 (inl k.0), k.1) ])
      | inr k ↦ inr ((taken_item xs i y x here is).1 (inr k.1), subst P k.1 (test.0 k.0))
    ]),
    (λ h. elim h [
      | inl o ↦ new.1 (inl (old.1 (inl o)))
      | inr k ↦ (elim ((taken_item xs i y x here is).0 k.0) [
        | inl was ↦ new.1 (inl (old.1 (inr (was, k.1))))
        | inr e ↦ new.1 (inr (test.1 (subst P (sym e) k.1), e))
      ])
    ]),
  )

-- the list, with what the next number has
pub turn_of_number : (P : ℕ → Type 0) (n : ℕ) (A A' : Type 0) → A' ↔ (A ⊎ P n) → A ↔ Below P n → A' ↔ Below P (n + 1)
turn_of_number P n A A' new old = (
  (λ h. (below_split P n).1 (elim (new.0 h) [ inl a ↦ inl (old.0 a) | inr p ↦ inr p ])),
  (λ h. elim ((below_split P n).0 h) [ inl b ↦ new.1 (inl (old.1 b)) | inr p ↦ new.1 (inr p) ]),
)

pub taken_whole : {X : Type 0} (xs : List X) (i : ℕ) (x : X) (A O P : Type 0) → length xs ≤ i → A ↔ (O ⊎ (Contains (take i xs) x × P)) → A ↔ (O ⊎ (Contains xs x × P))
taken_whole xs i x A O P l h = rw (take_all i xs l) at h

-- the names of a point that is marked, and of one that isn't
module _ (new old : Type 0) (M U D : Type 0) where
  pub used_turn : (used : Type 0) → used ↔ U → new ↔ (old ⊎ (used × D)) → new ↔ (old ⊎ (U × D))
  used_turn used uses is = (
    (λ h. elim (is.0 h) [ inl o ↦ inl o | inr k ↦ inr (uses.0 k.0, k.1) ]),
    (λ h. elim h [ inl o ↦ is.1 (inl o) | inr k ↦ is.1 (inr (uses.1 k.0, k.1)) ]),
  )

  pub marked_turn : (used : Type 0) → M → used ↔ U → new ↔ (old ⊎ (used × D)) → new ↔ (old ⊎ (M × U × D))
  marked_turn used m uses is = (
    (λ h. elim (is.0 h) [ inl o ↦ inl o | inr k ↦ inr (m, uses.0 k.0, k.1) ]),
    (λ h. elim h [ inl o ↦ is.1 (inl o) | inr k ↦ is.1 (inr (uses.1 k.1, k.2)) ]),
  )

pub unmarked_turn : (old M U D : Type 0) → ¬ M → old ↔ (old ⊎ (M × U × D))
unmarked_turn old M U D free = ((λ h. inl h), (λ h. elim h [ inl o ↦ o | inr k ↦ absurd (free k.0) ]))

-- the rows after one more of the names that are used
pub turn_used : {X : Type 0} (used : List X) (k : ℕ) (name x : X) (A A' O E : Type 0) → k < length used → name ≡ get_or used k name
    → A' ↔ (A ⊎ ((name ≡ x) × E)) → A ↔ (O ⊎ (Contains (take k used) x × E)) → A' ↔ (O ⊎ (Contains (take (k + 1) used) x × E))
turn_used {X} used k name x A A' O E l is new old =
    let more = taken_item used k name x l is in (
      (λ h. elim (new.0 h) [
        | inl a ↦ (elim (old.0 a) [ inl o ↦ inl o | inr t ↦ inr (more.1 (inl t.0), t.1) ])
        | inr t ↦ inr (more.1 (inr t.0), t.1)
      ]),
      (λ h. elim h [
        | inl o ↦ new.1 (inl (old.1 (inl o)))
        | inr t ↦ (elim (more.0 t.0) [ inl was ↦ new.1 (inl (old.1 (inr (was, t.1)))) | inr e ↦ new.1 (inr (e, t.1)) ])
      ]),
    )

-- the points so far that have P, and one more
pub turn_point : (P : ℕ → Type 0) (n p : ℕ) (A A' : Type 0) → A' ↔ (A ⊎ (P n × (n ≡ p))) → A ↔ ((p < n) × P p) → A' ↔ ((p < n + 1) × P p)
turn_point P n p A A' new old = (
  (λ h. elim (new.0 h) [
    | inl a ↦ (let k = old.0 a in (omega (arith, k.0), k.1))
    | inr k ↦ (omega (arith, k.1), subst P k.1 k.0)
  ]),
  (λ (l, h). elim (cases_eq p n) [ inl e ↦ new.1 (inr (subst P e h, sym e)) | inr ne ↦ new.1 (inl (old.1 (omega (arith, l), h))) ]),
)
