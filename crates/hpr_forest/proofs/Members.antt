-- Lists without repeats, and tests of membership.
use Rattle.std.proofs.Common.{◌≡◌, ℕ, zero, suc, ◌<◌, ◌≤◌, Bool, true, false, cond, eqb, List, [], ◌∷◌, ◌++◌, length, Contains, ◌⊎◌, inl, inr, refl, sym, ap, subst, arith, length-append}
use Rattle.std.proofs.lemmas.List.Elements.{Contains-append_left, Contains-append_right, Contains-append_cases}
use Rattle.std.proofs.lemmas.Bool.{cases_Bool, cases_eq, eqb-true, eqb-false, both_ways}
use Rattle.hpr_forest.proofs.Unique.{in_none, in_cons, in_first, in_later}
use Rattle.hpr_forest.specs.Forest.{is_in, all_in}
pub use Rattle.hpr_forest.specs.Forest.{IsDistinct}

pub split : (xs : List ℕ) (x : ℕ) → Contains xs x → (l r : List ℕ) × (xs ≡ l ++ x ∷ r)
split [] x h = absurd (in_none x h)
split (y ∷ xs) x h = elim (in_cons y x xs h) [
  | inl e ↦ ([], xs, ap (λ z. z ∷ xs) e)
  | inr later ↦ (let (l, r, e) = split xs x later in (y ∷ l, r, ap (λ zs. y ∷ zs) e))
]

stays : (l r : List ℕ) (x y : ℕ) → (x ≡ y → ⊥) → Contains (l ++ x ∷ r) y → Contains (l ++ r) y
stays l r x y ne h = elim (Contains-append_cases l (x ∷ r) y h) [
  | inl a ↦ Contains-append_left l r y a
  | inr b ↦ elim (in_cons x y r b) [
    | inl e ↦ absurd (ne e)
    | inr c ↦ Contains-append_right l r y c
  ]
]

-- a list without repeats is no longer than one with all its members
pub no_longer : (es xs : List ℕ) → IsDistinct es → ((e : ℕ) → Contains es e → Contains xs e) → length es ≤ length xs
no_longer [] xs once all = omega arith
no_longer (e ∷ es) xs once all =
    let (l, r, is) = split xs e (all e (in_first e es)) in
    let rest : (y : ℕ) → Contains es y → Contains (l ++ r) y = λ y h.
    stays l r e y (λ same. once.0 (subst (λ z. Contains es z) (sym same) h))
    (subst (λ zs. Contains zs y) is (all y (in_later e y es h))) in
    omega (arith, no_longer es (l ++ r) once.1 rest, ap length is, length-append l (e ∷ r), length-append l r)

-- the numbers below n
abbrev pub below : ℕ → List ℕ
below zero = []
below (suc n) = n ∷ below n

pub below_has : (n c : ℕ) → c < n → Contains (below n) c
below_has zero c h = absurd (omega arith)
below_has (suc n) c h = elim (cases_eq n c) [ inl e ↦ subst (λ z. Contains (n ∷ below n) z) e (in_first n (below n)) | inr ne ↦ in_later n c (below n) (below_has n c (omega arith)) ]

pub length-below : (n : ℕ) → length (below n) ≡ n
length-below zero = refl
length-below (suc n) = ap suc (length-below n)

pub cond_parts : (t a : Bool) → cond t a false ≡ true → (t ≡ true) × (a ≡ true)
cond_parts true a e = (refl, e)
cond_parts false a e = absurd cc

pub is_in-true : (xs : List ℕ) (c : ℕ) → is_in xs c ≡ true → Contains xs c
is_in-true [] c e = absurd cc
is_in-true (x ∷ xs) c e = at (eqb x c) refl (is_in-true xs c) e
  where
    at : (t : Bool) → eqb x c ≡ t → (is_in xs c ≡ true → Contains xs c) → cond t true (is_in xs c) ≡ true → Contains (x ∷ xs) c
    at true is rest e' = subst (λ z. Contains (x ∷ xs) z) (eqb-true x c is) (in_first x xs)
    at false is rest e' = in_later x c xs (rest e')

pub in_is_in : (xs : List ℕ) (c : ℕ) → Contains xs c → is_in xs c ≡ true
in_is_in [] c h = absurd (in_none c h)
in_is_in (x ∷ xs) c h = at (eqb x c) refl (in_is_in xs c)
  where
    at : (t : Bool) → eqb x c ≡ t → (Contains xs c → is_in xs c ≡ true) → cond t true (is_in xs c) ≡ true
    at true is rest = refl
    at false is rest = elim (in_cons x c xs h) [ inl e ↦ absurd (eqb-false x c is e) | inr later ↦ rest later ]

pub is_in-false : (xs : List ℕ) (c : ℕ) → is_in xs c ≡ false → Contains xs c → ⊥
is_in-false xs c e h = both_ways (is_in xs c) e (in_is_in xs c h)

pub out_is_in : (xs : List ℕ) (c : ℕ) → (Contains xs c → ⊥) → is_in xs c ≡ false
out_is_in xs c none = elim (cases_Bool (is_in xs c)) [ inl e ↦ absurd (none (is_in-true xs c e)) | inr e ↦ e ]

pub all_in-true : (q ys : List ℕ) → all_in q ys ≡ true → (y : ℕ) → Contains ys y → Contains q y
all_in-true q [] e y h = absurd (in_none y h)
all_in-true q (z ∷ ys) e y h =
    let (a, b) = cond_parts (is_in q z) (all_in q ys) e in
    elim (in_cons z y ys h) [ inl same ↦ subst (λ w. Contains q w) same (is_in-true q z a) | inr later ↦ all_in-true q ys b y later ]

pub in_all_in : (q ys : List ℕ) → ((y : ℕ) → Contains ys y → Contains q y) → all_in q ys ≡ true
in_all_in q [] all = refl
in_all_in q (z ∷ ys) all = rw (in_is_in q z (all z (in_first z ys))) (in_all_in q ys (λ y h. all y (in_later z y ys h)))

-- a list of n different numbers below n has all of them
pub has_all : (n : ℕ) (l : List ℕ) → IsDistinct l → ((x : ℕ) → Contains l x → x < n) → length l ≡ n → (c : ℕ) → c < n → Contains l c
has_all n l once within len c h = elim (cases_Bool (is_in l c)) [
  | inl e ↦ is_in-true l c e
  | inr e ↦ absurd (omega (
    arith,
    len,
    length-below n,
    no_longer (c ∷ l) (below n) (is_in-false l c e, once)
        (λ x k. elim (in_cons c x l k) [ inl same ↦ subst (λ w. Contains (below n) w) same (below_has n c h) | inr later ↦ below_has n x (within x later) ]),
  ))
]

-- the first member that passes a test
pub first_where : (P : ℕ → Bool) (l : List ℕ) → ((x : ℕ) → Contains l x → P x ≡ false)
    ⊎ ((l1 l2 : List ℕ) × (c : ℕ) × (l ≡ l1 ++ c ∷ l2) × (P c ≡ true) × ((x : ℕ) → Contains l1 x → P x ≡ false))
first_where P [] = inl (λ x h. absurd (in_none x h))
first_where P (y ∷ l) = at (P y) refl (first_where P l)
  where
    at : (t : Bool) → P y ≡ t
        → ((x : ℕ) → Contains l x → P x ≡ false) ⊎ ((l1 l2 : List ℕ) × (c : ℕ) × (l ≡ l1 ++ c ∷ l2) × (P c ≡ true) × ((x : ℕ) → Contains l1 x → P x ≡ false))
        → ((x : ℕ) → Contains (y ∷ l) x → P x ≡ false) ⊎ ((l1 l2 : List ℕ) × (c : ℕ) × (y ∷ l ≡ l1 ++ c ∷ l2) × (P c ≡ true) × ((x : ℕ) → Contains l1 x → P x ≡ false))
    at true is rest = inr ([], l, y, refl, is, λ x h. absurd (in_none x h))
    at false is (inl none) = inl (λ x h. elim (in_cons y x l h) [ inl e ↦ subst (λ w. P w ≡ false) e is | inr later ↦ none x later ])
    at false is (inr (l1, l2, c, e, p, none)) = inr (
      y ∷ l1,
      l2,
      c,
      ap (λ zs. y ∷ zs) e,
      p,
      λ x h. elim (in_cons y x l1 h) [ inl e' ↦ subst (λ w. P w ≡ false) e' is | inr later ↦ none x later ],
    )
