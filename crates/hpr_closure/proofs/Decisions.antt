-- What is decided of the items of a list.
use Rattle.std.proofs.Common.{◌↔◌, ◌⊎◌, inl, inr, List, [], ◌∷◌, Contains, sym, subst}
use Rattle.hpr_terms.proofs.Facts.{in_none, in_cons, in_here, in_later}
use Rattle.hpr_closure.proofs.Decided.{Decided}

pub implied : (P Q : Type 0) → Decided P → Decided Q → Decided (P → Q)
implied P Q p (inl q) = inl (λ _. q)
implied P Q (inr n) (inr m) = inl (λ p. absurd (n p))
implied P Q (inl p) (inr m) = inr (λ f. m (f p))

pub denied : (P : Type 0) → Decided P → Decided (¬ P)
denied P (inl p) = inr (λ n. n p)
denied P (inr n) = inl n

pub either : (P Q : Type 0) → Decided P → Decided Q → Decided (P ⊎ Q)
either P Q (inl p) q = inl (inl p)
either P Q (inr n) (inl q) = inl (inr q)
either P Q (inr n) (inr m) = inr (λ h. elim h [ inl p ↦ n p | inr q ↦ m q ])

pub turned : (P Q : Type 0) → (P → Q) → (Q → P) → Decided P → Decided Q
turned P Q f g (inl p) = inl (f p)
turned P Q f g (inr n) = inr (λ q. n (g q))

module _ {X : Type 0} (P : X → Type 0) (decided : (x : X) → Decided (P x)) where
  abbrev pub Some' : List X → Type 0
  Some' xs = (x : X) × Contains xs x × P x

  pub some_decided : (xs : List X) → Some' xs ⊎ ((x : X) → Contains xs x → ¬ P x)
  some_decided [] = inr (λ x h. absurd (in_none x h))
  some_decided (y ∷ xs) = elim (decided y) [
    | inl p ↦ inl (y, in_here y xs, p)
    | inr n ↦ elim (some_decided xs) [
      | inl (x, h, p) ↦ inl (x, in_later y x xs h, p)
      | inr none ↦ inr (λ x h. elim (in_cons y x xs h) [ inl same ↦ subst (λ (z : X). ¬ P z) same n | inr later ↦ none x later ])
    ]
  ]

  pub each_decided : (xs : List X) → Decided ((x : X) → Contains xs x → P x)
  each_decided [] = inl (λ x h. absurd (in_none x h))
  each_decided (y ∷ xs) = elim (decided y) [
    | inr n ↦ inr (λ all. n (all y (in_here y xs)))
    | inl p ↦ elim (each_decided xs) [
      | inr n ↦ inr (λ all. n (λ x h. all x (in_later y x xs h)))
      | inl rest ↦ inl (λ x h. elim (in_cons y x xs h) [ inl same ↦ subst P same p | inr later ↦ rest x later ])
    ]
  ]

  -- those of a list with P
  pub those_of : (xs : List X) → (ys : List X) × ((x : X) → Contains ys x ↔ (Contains xs x × P x))
  those_of [] = ([], λ x. (λ h. absurd (in_none x h), λ h. absurd (in_none x h.0)))
  those_of (y ∷ xs) = elim (decided y) [
    | inl p ↦ (let (ys, those) = those_of xs in (
      y ∷ ys,
      λ x. (
        λ h. elim (in_cons y x ys h) [
          | inl same ↦ (subst (λ (z : X). Contains (y ∷ xs) z) same (in_here y xs), subst P same p)
          | inr later ↦ (let (was, px) = (those x).0 later in (in_later y x xs was, px))
        ],
        λ (h, px). elim (in_cons y x xs h) [
          | inl same ↦ subst (λ (z : X). Contains (y ∷ ys) z) same (in_here y ys)
          | inr later ↦ in_later y x ys ((those x).1 (later, px))
        ],
      ),
    ))
    | inr n ↦ (let (ys, those) = those_of xs in (
      ys,
      λ x. (
        λ h. (let (was, px) = (those x).0 h in (in_later y x xs was, px)),
        λ (h, px). elim (in_cons y x xs h) [
          | inl same ↦ absurd (n (subst P (sym same) px))
          | inr later ↦ (those x).1 (later, px)
        ],
      ),
    ))
  ]

  -- a list of exactly what has P, where some list has all of these
  pub listed_by : (xs : List X) → ((x : X) → P x → Contains xs x) → (ys : List X) × ((x : X) → Contains ys x ↔ P x)
  listed_by xs all = let (ys, those) = those_of xs in (ys, λ x. (λ h. ((those x).0 h).1, λ p. (those x).1 (all x p, p)))
