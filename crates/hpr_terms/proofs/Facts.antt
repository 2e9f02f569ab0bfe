-- Small facts on Booleans, numbers, options and lists that the library lacks, for all crates.
use Rattle.std.proofs.Common.{◌≡◌, Bool, true, false, not, ◌&&◌, ◌||◌, if◌then◌else◌, ℕ, zero, suc, ◌+◌, ◌<◌, ◌↔◌, ◌⊎◌, inl, inr, Option, Some, None, IsSome, List, [], ◌∷◌, ◌++◌, length, map, take, get_or, Contains, slice_get, refl, sym, ap, ◌∙◌, subst, arith}
use Rattle.std.proofs.lemmas.Option.{slice_get-get_or, get_or_from_slice_get, slice_get_within}
use Rattle.std.proofs.lemmas.List.{take_more}
use Rattle.std.proofs.lemmas.List.Elements.{Contains-push, Contains-push_cases, Contains-append_left, Contains-append_right}

-- ---- what is so either way can't be refuted

module _ (A : Type 0) where
  pub by_both : (C : Type 0) → (A → ¬ (¬ C)) → ((¬ A) → ¬ (¬ C)) → ¬ (¬ C)
  by_both C holds fails n = fails (λ a. holds a n) n

-- ---- Booleans

pub and_both : (a b : Bool) → (a && b) ≡ true → (a ≡ true) × (b ≡ true)
and_both true b e = (refl, e)
and_both false b e = absurd cc

pub and_false : (b : Bool) → (b && false) ≡ false
and_false true = refl
and_false false = refl

pub or_left : (a b : Bool) → a ≡ true → (a || b) ≡ true
or_left true b e = refl
or_left false b e = absurd cc

pub or_right : (a b : Bool) → b ≡ true → (a || b) ≡ true
or_right true b e = refl
or_right false b e = e

pub or_false : (a b : Bool) → (a || b) ≡ false → (a ≡ false) × (b ≡ false)
or_false true b e = absurd cc
or_false false b e = (refl, e)

pub neither : (a b : Bool) → a ≡ false → b ≡ false → (a || b) ≡ false
neither true b e f = absurd cc
neither false b e f = f

pub not_is : (b : Bool) → not b ≡ false → b ≡ true
not_is true e = refl
not_is false e = absurd cc

-- ---- numbers

pub compared : (i n : ℕ) → (i < n) ⊎ ((i ≡ n) ⊎ (n < i))
compared zero zero = inr (inl refl)
compared zero (suc n) = inl (omega arith)
compared (suc i) zero = inr (inr (omega arith))
compared (suc i) (suc n) = elim (compared i n) [ inl l ↦ inl (omega (arith, l)) | inr r ↦ elim r [ inl e ↦ inr (inl (ap suc e)) | inr g ↦ inr (inr (omega (arith, g))) ] ]

-- ---- options

module _ {X : Type 0} where
  pub some_inj : (x y : X) → Some x ≡ Some y → x ≡ y
  some_inj x y e = cc

  pub is_some_at : (o : Option X) (x : X) → o ≡ Some x → IsSome o
  is_some_at o x e = subst (λ (p : Option X). IsSome p) (sym e) refl

  pub if_none : (b : Bool) (x : X) (o : Option X) → (if b then Some x else o) ≡ None → (b ≡ false) × (o ≡ None)
  if_none true x o e = absurd cc
  if_none false x o e = (refl, e)

  pub unless : (b : Bool) (x : X) (o : Option X) → b ≡ false → o ≡ None → (if b then Some x else o) ≡ None
  unless true x o e f = absurd cc
  unless false x o e f = f

-- ---- members and places of lists

module _ {X : Type 0} where
  pub in_none : (x : X) → ¬ Contains [] x
  in_none x h = omega (arith, h.1)

  pub in_cons : (x y : X) (xs : List X) → Contains (x ∷ xs) y → (x ≡ y) ⊎ Contains xs y
  in_cons x y xs (zero, h, e) = inl e
  in_cons x y xs (suc k, h, e) = inr (k, omega arith, e)

  pub in_here : (x : X) (xs : List X) → Contains (x ∷ xs) x
  in_here x xs = (0, omega arith, refl)

  pub in_later : (x y : X) (xs : List X) → Contains xs y → Contains (x ∷ xs) y
  in_later x y xs h = Contains-append_right (x ∷ []) xs y h

  pub contains_at : (xs : List X) (i : ℕ) (x : X) → slice_get xs i ≡ Some x → Contains xs x
  contains_at xs i x h = (i, slice_get_within xs i x h, get_or_from_slice_get xs i x x h)

  pub place_of : (xs : List X) (x : X) → Contains xs x → (i : ℕ) × (slice_get xs i ≡ Some x)
  place_of xs x (i, l, e) = (i, slice_get-get_or xs i x l ∙ ap Some e)

  pub get_below : (xs : List X) (i : ℕ) → i < length xs → (x : X) × (slice_get xs i ≡ Some x)
  get_below [] i l = absurd (omega (arith, l))
  get_below (x ∷ xs) zero l = (x, refl)
  get_below (x ∷ xs) (suc i) l = get_below xs i (omega (arith, l))

  -- a longer list keeps what stands in it
  pub get_longer : (xs ys : List X) (i : ℕ) (x : X) → slice_get xs i ≡ Some x → slice_get (xs ++ ys) i ≡ Some x
  get_longer [] ys i x h = absurd cc
  get_longer (z ∷ xs) ys zero x h = h
  get_longer (z ∷ xs) ys (suc i) x h = get_longer xs ys i x h

  -- what stands in two lists, the one behind the other
  pub at_append : (xs ys : List X) (i : ℕ) (x : X) → slice_get (xs ++ ys) i ≡ Some x → (slice_get xs i ≡ Some x) ⊎ ((k : ℕ) × (i ≡ length xs + k) × (slice_get ys k ≡ Some x))
  at_append [] ys i x h = inr (i, omega arith, h)
  at_append (y ∷ xs) ys zero x h = inl h
  at_append (y ∷ xs) ys (suc i) x h = elim (at_append xs ys i x h) [ inl a ↦ inl a | inr (k, e, b) ↦ inr (k, omega (arith, e), b) ]

  pub at_push : (xs : List X) (x : X) (i : ℕ) (y : X) → slice_get (xs ++ x ∷ []) i ≡ Some y → (slice_get xs i ≡ Some y) ⊎ ((i ≡ length xs) × (x ≡ y))
  at_push [] x zero y h = inr (refl, cc)
  at_push [] x (suc i) y h = absurd cc
  at_push (z ∷ xs) x zero y h = inl h
  at_push (z ∷ xs) x (suc i) y h = elim (at_push xs x i y h) [ inl a ↦ inl a | inr b ↦ inr (ap suc b.0, b.1) ]

  pub at_end : (xs : List X) (x : X) → slice_get (xs ++ x ∷ []) (length xs) ≡ Some x
  at_end [] x = refl
  at_end (z ∷ xs) x = at_end xs x

  -- the first i + 1 of a list are the first i and one more
  pub in_taken : (xs : List X) (i : ℕ) (d y : X) → i < length xs → Contains (take (i + 1) xs) y ↔ (Contains (take i xs) y ⊎ (get_or xs i d ≡ y))
  in_taken xs i d y l =
      rw (take_more xs i d l) (
        λ h. Contains-push_cases (take i xs) (get_or xs i d) y h,
        λ h. elim h [
          | inl was ↦ Contains-append_left (take i xs) (get_or xs i d ∷ []) y was
          | inr e ↦ subst (λ (z : X). Contains (take i xs ++ get_or xs i d ∷ []) z) e (Contains-push (take i xs) (get_or xs i d))
        ],
      )

  pub taken_item : (xs : List X) (i : ℕ) (x y : X) → i < length xs → x ≡ get_or xs i x → Contains (take (i + 1) xs) y ↔ (Contains (take i xs) y ⊎ (x ≡ y))
  taken_item xs i x y l is = subst (λ (z : X). Contains (take (i + 1) xs) y ↔ (Contains (take i xs) y ⊎ (z ≡ y))) (sym is) (in_taken xs i x y l)

-- ---- what a function makes of a list

module _ {X Y : Type 0} (f : X → Y) where
  pub get_in_map : (xs : List X) (i : ℕ) (x : X) → slice_get xs i ≡ Some x → slice_get (map f xs) i ≡ Some (f x)
  get_in_map [] i x h = absurd cc
  get_in_map (z ∷ xs) zero x h = let e : z ≡ x = cc in ap (λ (w : X). Some (f w)) e
  get_in_map (z ∷ xs) (suc i) x h = get_in_map xs i x h

  pub get_map : (xs : List X) (i : ℕ) (y : Y) → slice_get (map f xs) i ≡ Some y → (x : X) × (slice_get xs i ≡ Some x) × (f x ≡ y)
  get_map [] i y h = absurd cc
  get_map (x ∷ xs) zero y h = (x, refl, cc)
  get_map (x ∷ xs) (suc i) y h = get_map xs i y h

  pub in_map : (xs : List X) (x : X) → Contains xs x → Contains (map f xs) (f x)
  in_map xs x h = let (i, at) = place_of xs x h in contains_at (map f xs) i (f x) (get_in_map xs i x at)

  pub map_in : (xs : List X) (y : Y) → Contains (map f xs) y → (x : X) × Contains xs x × (f x ≡ y)
  map_in xs y h =
      let (i, at) = place_of (map f xs) y h in
      let (x, there, is) = get_map xs i y at in
      (x, contains_at xs i x there, is)
