-- The example that the tests walk through has no dead end.
use Rattle.std.proofs.Common.{◌≡◌, ℕ, ◌<◌, Bool, true, false, cond, eqb, ltb, List, [], ◌∷◌, length, ◌⊎◌, inl, inr, refl, arith}
use Rattle.std.proofs.lemmas.Bool.{cases_Bool, eqb-true, ltb-true}
use Rattle.hpr_forest.specs.Marks.{is_in}
use Rattle.hpr_forest.specs.Choices.{IsWhole, IsBacktrackFree}

abbrev pub stands : Bool → List ℕ → ℕ → Bool
stands blocked q c = cond blocked false (cond (ltb c 3) (cond (is_in q c) false (cond (eqb c 2) (is_in q 0) true)) false)

in_cases : (x : ℕ) (xs : List ℕ) (c : ℕ) → is_in (x ∷ xs) c ≡ true → (x ≡ c) ⊎ (is_in xs c ≡ true)
in_cases x xs c h = at (eqb x c) refl h
  where
    at : (t : Bool) → eqb x c ≡ t → cond t true (is_in xs c) ≡ true → (x ≡ c) ⊎ (is_in xs c ≡ true)
    at true e k = inl (eqb-true x c e)
    at false e k = inr k

one_only : (x c : ℕ) → is_in (x ∷ []) c ≡ true → x ≡ c
one_only x c h = elim (in_cases x [] c h) [ inl e ↦ e | inr none ↦ absurd cc ]

-- three numbers don't stand in a shorter list
three : (q : List ℕ) → is_in q 0 ≡ true → is_in q 1 ≡ true → is_in q 2 ≡ true → length q < 3 → ⊥
three [] a b c l = absurd cc
three (x ∷ []) a b c l = let d = one_only x 0 a in let e = one_only x 1 b in omega arith
three (x ∷ y ∷ []) a b c l = elim (in_cases x (y ∷ []) 0 a) [
  | inl d ↦ elim (in_cases x (y ∷ []) 1 b) [
    | inl e ↦ omega arith
    | inr e ↦ elim (in_cases x (y ∷ []) 2 c) [
      | inl f ↦ omega arith
      | inr f ↦ (let e' = one_only y 1 e in let f' = one_only y 2 f in omega arith)
    ]
  ]
  | inr d ↦ (let d' = one_only y 0 d in elim (in_cases x (y ∷ []) 1 b) [
    | inl e ↦ elim (in_cases x (y ∷ []) 2 c) [
      | inl f ↦ omega arith
      | inr f ↦ (let f' = one_only y 2 f in omega arith)
    ]
    | inr e ↦ (let e' = one_only y 1 e in omega arith)
  ])
]
three (x ∷ y ∷ z ∷ q) a b c l = omega (arith, l)

goes_on : (q : List ℕ) → length q < 3 → (c : ℕ) × (stands false q c ≡ true)
goes_on q l = elim (cases_Bool (is_in q 0)) [
  | inr out ↦ (0, rw out refl)
  | inl a ↦ elim (cases_Bool (is_in q 1)) [
    | inr out ↦ (1, rw out refl)
    | inl b ↦ elim (cases_Bool (is_in q 2)) [
      | inr out ↦ (2, rw (out, a) refl)
      | inl c ↦ absurd (three q a b c l)
    ]
  ]
]

within : (blocked : Bool) (q : List ℕ) (c : ℕ) → stands blocked q c ≡ true → c < 3
within true q c e = absurd cc
within false q c e = at (ltb c 3) refl e
  where
    at : (t : Bool) → ltb c 3 ≡ t → cond t (cond (is_in q c) false (cond (eqb c 2) (is_in q 0) true)) false ≡ true → c < 3
    at true is k = ltb-true c 3 is
    at false is k = absurd cc

fresh : (blocked : Bool) (q : List ℕ) (c : ℕ) → stands blocked q c ≡ true → is_in q c ≡ false
fresh true q c e = absurd cc
fresh false q c e = at (ltb c 3) (is_in q c) refl e
  where
    at : (t u : Bool) → is_in q c ≡ u → cond t (cond u false (cond (eqb c 2) (is_in q 0) true)) false ≡ true → is_in q c ≡ false
    at true false is k = is
    at true true is k = absurd cc
    at false u is k = absurd cc

first_blocked : (l : List ℕ) → IsWhole (stands true) 3 l → ⊥
first_blocked [] w = omega (arith, w.len)
first_blocked (x ∷ l) w = let e : false ≡ true = w.follows.0 in absurd cc

pub example_free : (blocked : Bool) → IsBacktrackFree (stands blocked) 3
example_free true = record { within = within true; fresh = fresh true; goes_on = λ q l f s w. absurd (first_blocked l w) }
example_free false = record { within = within false; fresh = fresh false; goes_on = λ q l f s w. goes_on q s }
