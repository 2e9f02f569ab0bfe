-- Members and places of lists, and lists in which nothing stands twice.
use Rattle.std.proofs.Common.{◌≡◌, ◌≢◌, Bool, true, false, ℕ, zero, suc, ◌+◌, ◌<◌, ◌≤◌, inl, inr, Option, Some, None, IsSome, List, [], ◌∷◌, ◌++◌, length, set, take, get_or, Contains, slice_get, refl, sym, ap, ◌∙◌, subst, arith, length-append}
use Rattle.std.proofs.lemmas.Option.{slice_get-get_or}
use Rattle.std.proofs.lemmas.List.{take_all}
use Rattle.std.proofs.lemmas.List.Elements.{Contains-append_left, Contains-append_right, Contains-append_cases}
pub use Rattle.hpr_terms.proofs.Facts.{some_inj, is_some_at, contains_at, place_of, in_none, in_cons, in_here, in_later, get_longer, at_push, at_end, in_taken}
use Rattle.hpr_graph.specs.Graphs.{IsOnce}

-- no test comes out both ways
pub never : (b : Bool) → b ≡ true → b ≡ false → ⊥
never b is isnt = let e : true ≡ false = sym is ∙ isnt in cc

module _ {X : Type 0} where
  pub some_of : (o : Option X) → IsSome o → (x : X) × (o ≡ Some x)
  some_of None h = absurd cc
  some_of (Some x) h = (x, refl)

  -- what the code reads of a list that is another
  pub read_at : (xs ys : List X) (i : ℕ) (x : X) → xs ≡ ys → i < length xs → x ≡ get_or xs i x → slice_get ys i ≡ Some x
  read_at xs ys i x e l is = ap (λ zs. slice_get zs i) (sym e) ∙ slice_get-get_or xs i x l ∙ ap Some (sym is)

  pub member_at : (xs : List X) (i : ℕ) (d : X) → i < length xs → Contains xs (get_or xs i d)
  member_at xs i d l = contains_at xs i (get_or xs i d) (slice_get-get_or xs i d l)

  -- the first i are all
  pub taken_all : (xs : List X) (i : ℕ) (x : X) → length xs ≤ i → Contains xs x → Contains (take i xs) x
  taken_all xs i x le = subst (λ (ys : List X). Contains ys x) (sym (take_all i xs le))

  -- what holds of the first i holds of one more
  pub taken_more : (xs : List X) (i : ℕ) (d : X) (P : X → Type 0) → i < length xs → ((y : X) → Contains (take i xs) y → P y) → P (get_or xs i d) → (y : X) → Contains (take (i + 1) xs) y → P y
  taken_more xs i d P l before here y h =
      elim ((in_taken xs i d y l).0 h) [ inl was ↦ before y was | inr e ↦ subst P e here ]

  pub set_itself : (xs : List X) (i : ℕ) (x : X) → slice_get xs i ≡ Some x → set xs i x ≡ xs
  set_itself [] i x h = refl
  set_itself (y ∷ xs) zero x h = ap (λ z. z ∷ xs) cc
  set_itself (y ∷ xs) (suc i) x h = ap (λ ys. y ∷ ys) (set_itself xs i x h)

  pub get_set_same : (xs : List X) (i : ℕ) (x : X) → i < length xs → slice_get (set xs i x) i ≡ Some x
  get_set_same [] i x h = absurd (omega (arith, h))
  get_set_same (y ∷ xs) zero x h = refl
  get_set_same (y ∷ xs) (suc i) x h = get_set_same xs i x (omega (arith, h))

  pub get_set_other : (xs : List X) (i j : ℕ) (x : X) → j ≢ i → slice_get (set xs i x) j ≡ slice_get xs j
  get_set_other [] i j x ne = refl
  get_set_other (y ∷ xs) zero zero x ne = absurd (ne refl)
  get_set_other (y ∷ xs) zero (suc j) x ne = refl
  get_set_other (y ∷ xs) (suc i) zero x ne = refl
  get_set_other (y ∷ xs) (suc i) (suc j) x ne = get_set_other xs i j x (λ e. ne (ap suc e))

  pub once_none : IsOnce {X = X} []
  once_none i j x a b = absurd cc

  pub once_tail : (x : X) (xs : List X) → IsOnce (x ∷ xs) → IsOnce xs
  once_tail x xs once i j y a b = let e : suc i ≡ suc j = once (suc i) (suc j) y a b in omega arith

  pub once_head : (x : X) (xs : List X) → IsOnce (x ∷ xs) → ¬ Contains xs x
  once_head x xs once h =
      let (i, is) = place_of xs x h in
      let e : 0 ≡ suc i = once 0 (suc i) x refl is in
      omega arith

  pub once_cons : (x : X) (xs : List X) → ¬ Contains xs x → IsOnce xs → IsOnce (x ∷ xs)
  once_cons x xs new once zero zero y a b = refl
  once_cons x xs new once zero (suc j) y a b = absurd (let e : x ≡ y = cc in new (subst (Contains xs) (sym e) (contains_at xs j y b)))
  once_cons x xs new once (suc i) zero y a b = absurd (let e : x ≡ y = cc in new (subst (Contains xs) (sym e) (contains_at xs i y a)))
  once_cons x xs new once (suc i) (suc j) y a b = ap suc (once i j y a b)

  pub once_append : (xs ys : List X) → IsOnce xs → IsOnce ys → ((x : X) → Contains xs x → ¬ Contains ys x) → IsOnce (xs ++ ys)
  once_append [] ys a b apart = b
  once_append (x ∷ xs) ys a b apart =
      once_cons x (xs ++ ys)
      (λ h. elim (Contains-append_cases xs ys x h) [ inl l ↦ once_head x xs a l | inr r ↦ apart x (in_here x xs) r ])
      (once_append xs ys (once_tail x xs a) b (λ y l r. apart y (in_later x y xs l) r))

  pub once_push : (xs : List X) (x : X) → IsOnce xs → ¬ Contains xs x → IsOnce (xs ++ x ∷ [])
  once_push xs x once new =
      once_append xs (x ∷ []) once (once_cons x [] (in_none x) once_none)
      (λ y l r. elim (in_cons x y [] r) [ inl e ↦ new (subst (Contains xs) (sym e) l) | inr none ↦ in_none y none ])

  -- a place at which x isn't taken yet
  pub not_taken : (xs : List X) (i : ℕ) (d : X) → IsOnce xs → i < length xs → ¬ Contains (take i xs) (get_or xs i d)
  not_taken [] i d once l h = omega (arith, l)
  not_taken (x ∷ xs) zero d once l h = in_none x h
  not_taken (x ∷ xs) (suc i) d once l h =
      elim (in_cons x (get_or xs i d) (take i xs) h) [
        | inl e ↦ once_head x xs once (subst (Contains xs) (sym e) (i, omega (arith, l), get_or_same xs i d (omega (arith, l))))
        | inr later ↦ not_taken xs i d (once_tail x xs once) (omega (arith, l)) later
      ]
    where
      get_or_same : (ys : List X) (j : ℕ) (e : X) → j < length ys → get_or ys j (get_or ys j e) ≡ get_or ys j e
      get_or_same [] j e k = absurd (omega (arith, k))
      get_or_same (y ∷ ys) zero e k = refl
      get_or_same (y ∷ ys) (suc j) e k = get_or_same ys j e (omega (arith, k))

  -- where nothing stands twice, an item isn't among those before it
  pub not_before : (xs : List X) (i : ℕ) (x : X) → IsOnce xs → i < length xs → x ≡ get_or xs i x → ¬ Contains (take i xs) x
  not_before xs i x once l is h = not_taken xs i x once l (subst (λ (z : X). Contains (take i xs) z) is h)

  pub split : (xs : List X) (x : X) → Contains xs x → (l r : List X) × (xs ≡ l ++ x ∷ r)
  split [] x h = absurd (in_none x h)
  split (y ∷ xs) x h = elim (in_cons y x xs h) [
    | inl e ↦ ([], xs, ap (λ z. z ∷ xs) e)
    | inr later ↦ (let (l, r, e) = split xs x later in (y ∷ l, r, ap (λ zs. y ∷ zs) e))
  ]

  -- a member other than x stays without x
  stays : (l r : List X) (x y : X) → x ≢ y → Contains (l ++ x ∷ r) y → Contains (l ++ r) y
  stays l r x y ne h = elim (Contains-append_cases l (x ∷ r) y h) [
    | inl a ↦ Contains-append_left l r y a
    | inr b ↦ elim (in_cons x y r b) [ inl e ↦ absurd (ne e) | inr c ↦ Contains-append_right l r y c ]
  ]

  -- a list in which nothing stands twice is no longer than one that has all its members
  pub no_longer : (es xs : List X) → IsOnce es → ((e : X) → Contains es e → Contains xs e) → length es ≤ length xs
  no_longer [] xs once all = omega arith
  no_longer (e ∷ es) xs once all =
      let (l, r, is) = split xs e (all e (in_here e es)) in
      let rest : (y : X) → Contains es y → Contains (l ++ r) y =
      λ y h.
      stays l r e y (λ same. once_head e es once (subst (λ z. Contains es z) (sym same) h))
      (subst (λ zs. Contains zs y) is (all y (in_later e y es h))) in
      omega (arith, no_longer es (l ++ r) (once_tail e es once) rest, ap length is, length-append l (e ∷ r), length-append l r)

  -- a list in which nothing stands twice has all members of one that has its members and is no longer
  pub all_members : (xs ys : List X) → IsOnce xs → ((x : X) → Contains xs x → Contains ys x) → length ys ≤ length xs → (y : X) → Contains ys y → Contains xs y
  all_members [] ys once into short y h = absurd (omega (arith, h.1, short))
  all_members (x ∷ xs) ys once into short y h =
      let (l, r, is) = split ys x (into x (in_here x xs)) in
      let rest : (z : X) → Contains xs z → Contains (l ++ r) z =
      λ z k. stays l r x z (λ same. once_head x xs once (subst (λ (w : X). Contains xs w) (sym same) k)) (subst (λ (zs : List X). Contains zs z) is (into z (in_later x z xs k))) in
      let later : Contains (l ++ r) y → Contains (x ∷ xs) y =
      λ k. in_later x y xs (all_members xs (l ++ r) (once_tail x xs once) rest (omega (arith, short, ap length is, length-append l (x ∷ r), length-append l r)) y k) in
      elim (Contains-append_cases l (x ∷ r) y (subst (λ (zs : List X). Contains zs y) is h)) [
        | inl a ↦ later (Contains-append_left l r y a)
        | inr b ↦ elim (in_cons x y r b) [
          | inl e ↦ subst (λ (w : X). Contains (x ∷ xs) w) e (in_here x xs)
          | inr c ↦ later (Contains-append_right l r y c)
        ]
      ]
