-- Sums over lists of numbers, and how often a number stands in a list.
use Rattle.std.proofs.Common.{◌≡◌, ℕ, zero, suc, ◌+◌, ◌*◌, ◌<◌, ◌≤◌, ◌⊎◌, inl, inr, Bool, true, false, cond, eqb, List, [], ◌∷◌, ◌++◌, length, get_or, drop, Contains, refl, sym, ap, ap₂, ◌∙◌, subst, arith, drop-cons, add-one}
use Rattle.std.proofs.lemmas.Bool.{cases_eq, eq-eqb, ne_eqb}
use Rattle.hpr_terms.proofs.Facts.{in_none, in_cons, in_here, in_later}
use Rattle.hpr_forest.specs.Forest.{IsDistinct}
use Rattle.hpr_forest.specs.Marks.{is_in}
use Rattle.hpr_forest.proofs.Members.{out_is_in}
use Rattle.hpr_region.specs.Private.Needs.{occurrences, one_if, total}

pub total_same : (f h : ℕ → ℕ) (xs : List ℕ) → ((x : ℕ) → f x ≡ h x) → total f xs ≡ total h xs
total_same f h [] same = refl
total_same f h (x ∷ xs) same = ap₂ (λ a b. a + b) (same x) (total_same f h xs same)

pub total_plus : (f h : ℕ → ℕ) (xs : List ℕ) → total (λ x. f x + h x) xs ≡ total f xs + total h xs
total_plus f h [] = refl
total_plus f h (x ∷ xs) = let e = total_plus f h xs in omega (arith, e)

pub total_push : (f : ℕ → ℕ) (xs : List ℕ) (x : ℕ) → total f (xs ++ x ∷ []) ≡ total f xs + f x
total_push f [] x = omega arith
total_push f (y ∷ xs) x = let e = total_push f xs x in omega (arith, e)

pub total_zero : (f : ℕ → ℕ) (xs : List ℕ) → ((x : ℕ) → f x ≡ 0) → total f xs ≡ 0
total_zero f [] none = refl
total_zero f (x ∷ xs) none = let e = total_zero f xs none in let z = none x in omega (arith, e, z)

pub total_least : (f : ℕ → ℕ) (xs : List ℕ) (x : ℕ) → Contains xs x → f x ≤ total f xs
total_least f [] x h = absurd (in_none x h)
total_least f (y ∷ xs) x h = elim (in_cons y x xs h) [
  | inl is ↦ subst (λ z. f z ≤ f y + total f xs) is (omega arith)
  | inr later ↦ (let le = total_least f xs x later in omega (arith, le))
]

pub total_some : (f : ℕ → ℕ) (xs : List ℕ) → (total f xs ≡ 0) ⊎ ((x : ℕ) × Contains xs x × (0 < f x))
total_some f [] = inl refl
total_some f (x ∷ xs) = at (f x) refl (total_some f xs)
  where
    at : (n : ℕ) → f x ≡ n → ((total f xs ≡ 0) ⊎ ((y : ℕ) × Contains xs y × (0 < f y))) → (f x + total f xs ≡ 0) ⊎ ((y : ℕ) × Contains (x ∷ xs) y × (0 < f y))
    at (suc n) e rest = inr (x, in_here x xs, omega (arith, e))
    at zero e (inl none) = inl (omega (arith, e, none))
    at zero e (inr (y, h, lt)) = inr (y, in_later x y xs h, lt)

pub total_most : (f : ℕ → ℕ) (most : ℕ) (xs : List ℕ) → ((x : ℕ) → f x ≤ most) → total f xs ≤ length xs * most
total_most f most [] all = omega arith
total_most f most (x ∷ xs) all = let e = total_most f most xs all in let l = all x in steps (length xs) e l
  where
    steps : (n : ℕ) → total f xs ≤ n * most → f x ≤ most → f x + total f xs ≤ suc n * most
    steps n e l = let m : suc n * most ≡ most + n * most = grind arith in omega (arith, e, l, m)

pub total_drop : (f : ℕ → ℕ) (xs : List ℕ) (i d : ℕ) → i < length xs → total f (drop i xs) ≡ f (get_or xs i d) + total f (drop (i + 1) xs)
total_drop f xs i d lt = ap (total f) (drop-cons xs i d lt) ∙ ap (λ k. f (get_or xs i d) + total f (drop k xs)) (sym (add-one i))

-- ---- what stands in the list

is_one : (b : Bool) → one_if b ≤ 1
is_one true = omega arith
is_one false = omega arith

pub total_ones : (f : ℕ → Bool) (xs : List ℕ) → total (λ x. one_if (f x)) xs ≤ length xs
total_ones f [] = omega arith
total_ones f (x ∷ xs) = let e = total_ones f xs in let l = is_one (f x) in omega (arith, e, l)

zero_either : (b : Bool) → cond b zero zero ≡ zero
zero_either true = refl
zero_either false = refl

plus_either : (b : Bool) (m n : ℕ) → cond b (m + n) 0 ≡ cond b m 0 + cond b n 0
plus_either true m n = refl
plus_either false m n = refl

-- a number that stands once in a list counts once
once_counted : (P : ℕ → Bool) (s : ℕ) (ds : List ℕ) → IsDistinct ds → total (λ d. cond (P d) (one_if (eqb s d)) 0) ds ≡ one_if (cond (is_in ds s) (P s) false)
once_counted P s [] once = refl
once_counted P s (d ∷ ds) once = elim (cases_eq s d) [
  | inl same ↦ (
      let out : is_in ds s ≡ false = out_is_in ds s (λ h. once.0 (subst (Contains ds) same h)) in
      let none : total (λ x. cond (P x) (one_if (eqb s x)) 0) ds ≡ 0 = once_counted P s ds once.1 ∙ ap (λ b. one_if (cond b (P s) false)) out in
      let here : cond (P d) (one_if (eqb s d)) 0 ≡ one_if (P s) = ap (λ b. cond (P d) (one_if b) 0) (eq-eqb s d same) ∙ ones (P d) ∙ ap (λ z. one_if (P z)) (sym same) in
      let found : one_if (cond (cond (eqb d s) true (is_in ds s)) (P s) false) ≡ one_if (P s) = ap (λ b. one_if (cond (cond b true (is_in ds s)) (P s) false)) (eq-eqb d s (sym same)) in
      omega (arith, none, here, found))
  | inr ne ↦ (
      let rest = once_counted P s ds once.1 in
      let here : cond (P d) (one_if (eqb s d)) 0 ≡ 0 = ap (λ b. cond (P d) (one_if b) 0) (ne_eqb s d ne) ∙ zero_either (P d) in
      let found : one_if (cond (cond (eqb d s) true (is_in ds s)) (P s) false) ≡ one_if (cond (is_in ds s) (P s) false) = ap (λ b. one_if (cond (cond b true (is_in ds s)) (P s) false)) (ne_eqb d s (λ e. ne (sym e))) in
      omega (arith, rest, here, found))
]
  where
    ones : (b : Bool) → cond b 1 0 ≡ one_if b
    ones true = refl
    ones false = refl

-- how often the numbers of a list stand in another, counted in that other
pub counted_there : (P : ℕ → Bool) (placed : List ℕ) → IsDistinct placed → (ss : List ℕ) → total (λ s. one_if (cond (is_in placed s) (P s) false)) ss ≡ total (λ d. cond (P d) (occurrences ss d) 0) placed
counted_there P placed once [] = sym (total_zero (λ d. cond (P d) 0 0) placed (λ d. zero_either (P d)))
counted_there P placed once (s ∷ ss) =
    let rest = counted_there P placed once ss in
    let one = once_counted P s placed once in
    let split : total (λ d. cond (P d) (one_if (eqb s d) + occurrences ss d) 0) placed ≡ total (λ d. cond (P d) (one_if (eqb s d)) 0) placed + total (λ d. cond (P d) (occurrences ss d) 0) placed =
    total_same (λ d. cond (P d) (one_if (eqb s d) + occurrences ss d) 0) (λ d. cond (P d) (one_if (eqb s d)) 0 + cond (P d) (occurrences ss d) 0) placed (λ d. plus_either (P d) (one_if (eqb s d)) (occurrences ss d))
    ∙ total_plus (λ d. cond (P d) (one_if (eqb s d)) 0) (λ d. cond (P d) (occurrences ss d) 0) placed in
    omega (arith, rest, one, split)
