-- What lies within bounds can be put in order, where an order tells any two things apart, and in one way.
--
-- InTurn Before xs        == each item comes before all those behind it
-- AreInOrder Before P xs  == the list has exactly the things with P, in turn
use Rattle.std.proofs.Common.{◌≡◌, ℕ, zero, suc, ◌<◌, ◌↔◌, ◌⊎◌, inl, inr, Some, List, [], ◌∷◌, Contains, slice_get, refl, sym, ap, ◌∙◌, subst, arith, ap₂}
use Rattle.std.specs.declared.cmp.Ordering.{Ordering}
use Rattle.std.specs.declared.cmp.Ordering.TheVariants.{Less, Equal, Greater}
use Rattle.std.specs.Cmp.{IsTotalOrder}
use Rattle.std.specs.Ordering.{ordering_reverse}
use Rattle.std.proofs.lemmas.Bool.{cases_order}
use Rattle.hpr_graph.specs.Graphs.{IsOnce}
use Rattle.hpr_graph.specs.InOrder.{Ascends}
use Rattle.hpr_graph.proofs.Lists.{contains_at, in_none, in_cons, in_here, in_later, place_of}
use Rattle.hpr_graph.proofs.Bounded.{Bounded, listed_of}

module _ {X : Type 0} (Before : X → X → Type 0) where
  abbrev Rises : List X → Type 0
  Rises [] = Unit {0}
  Rises (x ∷ xs) = ((y : X) → Contains xs y → Before x y) × Rises xs

  abbrev pub InTurn : List X → Type 0
  InTurn xs = (i j : ℕ) (x y : X) → i < j → slice_get xs i ≡ Some x → slice_get xs j ≡ Some y → Before x y

  in_turn : (xs : List X) → Rises xs → InTurn xs
  in_turn [] r i j x y l p q = absurd cc
  in_turn (z ∷ xs) r i zero x y l p q = absurd (omega (arith, l))
  in_turn (z ∷ xs) r zero (suc j) x y l p q = let e : z ≡ x = cc in subst (λ (w : X). Before w y) e (r.0 y (contains_at xs j y q))
  in_turn (z ∷ xs) r (suc i) (suc j) x y l p q = in_turn xs r.1 i j x y (omega (arith, l)) p q

  abbrev pub AreInOrder : (X → Type 0) → List X → Type 0
  AreInOrder P xs = ((x : X) → Contains xs x ↔ P x) × InTurn xs

  module _ (P : X → Type 0) (through : (x y z : X) → P x → P y → P z → Before x y → Before y z → Before x z)
      (total : (x y : X) → P x → P y → ¬ (¬ ((x ≡ y) ⊎ (Before x y ⊎ Before y x)))) where
    abbrev Have : List X → Type 0
    Have xs = (x : X) → Contains xs x → P x

    -- a list with one item more, in turn
    abbrev IsPut : X → List X → List X → Type 0
    IsPut x xs ys = ((y : X) → Contains ys y ↔ ((x ≡ y) ⊎ Contains xs y)) × Rises ys

    put_none : (x : X) → IsPut x [] (x ∷ [])
    put_none x = (
      λ y. (
        in_cons x y [],
        λ h. elim h [ inl e ↦ subst (λ (z : X). Contains (x ∷ []) z) e (in_here x []) | inr none ↦ absurd (in_none y none) ],
      ),
      ((λ y none. absurd (in_none y none)), tt),
    )

    put_same : (x y : X) (ys : List X) → x ≡ y → Rises (y ∷ ys) → IsPut x (y ∷ ys) (y ∷ ys)
    put_same x y ys same r = (
      λ z. (
        λ h. inr h,
        λ h. elim h [ inl e ↦ subst (λ (w : X). Contains (y ∷ ys) w) (sym same ∙ e) (in_here y ys) | inr there ↦ there ],
      ),
      r,
    )

    put_first : (x y : X) (ys : List X) → P x → Have (y ∷ ys) → Before x y → Rises (y ∷ ys) → IsPut x (y ∷ ys) (x ∷ y ∷ ys)
    put_first x y ys p have before r = (
      λ z. (
        in_cons x z (y ∷ ys),
        λ h. elim h [ inl e ↦ subst (λ (w : X). Contains (x ∷ y ∷ ys) w) e (in_here x (y ∷ ys)) | inr there ↦ in_later x z (y ∷ ys) there ],
      ),
      (
        λ z there. elim (in_cons y z ys there) [
          | inl e ↦ subst (λ (w : X). Before x w) e before
          | inr later ↦ through x y z p (have y (in_here y ys)) (have z there) before (r.0 z later)
        ],
        r,
      ),
    )

    put_later : (x y : X) (ys zs : List X) → Before y x → Rises (y ∷ ys) → IsPut x ys zs → IsPut x (y ∷ ys) (y ∷ zs)
    put_later x y ys zs before r (has, up) = (
      λ z. (
        λ there. elim (in_cons y z zs there) [
          | inl e ↦ inr (subst (λ (w : X). Contains (y ∷ ys) w) e (in_here y ys))
          | inr later ↦ elim ((has z).0 later) [ inl e ↦ inl e | inr was ↦ inr (in_later y z ys was) ]
        ],
        λ h. elim h [
          | inl e ↦ in_later y z zs ((has z).1 (inl e))
          | inr there ↦ elim (in_cons y z ys there) [
            | inl e ↦ subst (λ (w : X). Contains (y ∷ zs) w) e (in_here y zs)
            | inr was ↦ in_later y z zs ((has z).1 (inr was))
          ]
        ],
      ),
      (λ z there. elim ((has z).0 there) [ inl e ↦ subst (λ (w : X). Before y w) e before | inr was ↦ r.0 z was ], up),
    )

    put : (x : X) (xs : List X) → P x → Have xs → Rises xs → ¬ (¬ ((ys : List X) × IsPut x xs ys))
    put x [] p have r n = n (x ∷ [], put_none x)
    put x (y ∷ ys) p have r n =
        total x y p (have y (in_here y ys)) (λ which. elim which [
          | inl same ↦ n (y ∷ ys, put_same x y ys same r)
          | inr apart ↦ elim apart [
            | inl before ↦ n (x ∷ y ∷ ys, put_first x y ys p have before r)
            | inr after ↦ put x ys p (λ z h. have z (in_later y z ys h)) r.1 (λ more. n (y ∷ more.0, put_later x y ys more.0 after r more.1))
          ]
        ])

    -- a list with the same items, in turn
    abbrev IsSorted : List X → List X → Type 0
    IsSorted xs ys = ((y : X) → Contains ys y ↔ Contains xs y) × Rises ys

    sorted_more : (x : X) (xs ys zs : List X) → IsSorted xs ys → IsPut x ys zs → IsSorted (x ∷ xs) zs
    sorted_more x xs ys zs (same, r) (has, up) = (
      λ y. (
        λ h. elim ((has y).0 h) [
          | inl e ↦ subst (λ (w : X). Contains (x ∷ xs) w) e (in_here x xs)
          | inr was ↦ in_later x y xs ((same y).0 was)
        ],
        λ h. elim (in_cons x y xs h) [ inl e ↦ (has y).1 (inl e) | inr later ↦ (has y).1 (inr ((same y).1 later)) ],
      ),
      up,
    )

    sorted : (xs : List X) → Have xs → ¬ (¬ ((ys : List X) × IsSorted xs ys))
    sorted [] have n = n ([], ((λ y. (λ h. h, λ h. h)), tt))
    sorted (x ∷ xs) have n =
        sorted xs (λ y h. have y (in_later x y xs h)) (λ rest.
        put x rest.0 (have x (in_here x xs)) (λ y h. have y (in_later x y xs ((rest.1.0 y).0 h))) rest.1.1 (λ more.
        n (more.0, sorted_more x xs rest.0 more.0 rest.1 more.1)))

    pub in_order : Bounded P → ¬ (¬ ((xs : List X) × AreInOrder P xs))
    in_order bounded n =
        listed_of P bounded (λ list.
        sorted list.0 (λ x h. (list.1 x).0 h) (λ done.
        n (done.0, ((λ x. (λ h. (list.1 x).0 ((done.1.0 x).0 h), λ p. (done.1.0 x).1 ((list.1 x).1 p))), in_turn done.0 done.1.1))))

-- the same for a comparison
module _ {X : Type 0} (cmp : X → X → Ordering) (order : IsTotalOrder cmp) (tied : (x y : X) → cmp x y ≡ Equal → x ≡ y) where
  abbrev Before : X → X → Type 0
  Before x y = cmp x y ≡ Less

  pub compared : (x y : X) → (x ≡ y) ⊎ (Before x y ⊎ Before y x)
  compared x y = at (cmp x y) refl
    where
      at : (o : Ordering) → cmp x y ≡ o → (x ≡ y) ⊎ (Before x y ⊎ Before y x)
      at Less e = inr (inl e)
      at Equal e = inl (tied x y e)
      at Greater e = inr (inr (order.antisymm y x ∙ ap ordering_reverse e))

  pub ascending : (P : X → Type 0) → Bounded P → ¬ (¬ ((xs : List X) × Ascends cmp xs × ((x : X) → Contains xs x ↔ P x)))
  ascending P bounded n =
      in_order Before P (λ x y z _ _ _ a b. order.trans x y z a b) (λ x y _ _ k. k (compared x y)) bounded (λ list. n (list.0, list.1.1, list.1.0))

module _ {X : Type 0} (cmp : X → X → Ordering) where
  -- nothing stands twice
  pub once_ascending : ((x y : X) → cmp x y ≡ Less → cmp y x ≡ Less → ⊥) → (xs : List X) → Ascends cmp xs → IsOnce xs
  once_ascending never xs up i j x p q = elim (cases_order i j) [
    | inl same ↦ same
    | inr apart ↦ elim apart [
      | inl less ↦ (let before : cmp x x ≡ Less = up i j x x less p q in absurd (never x x before before))
      | inr more ↦ (let before : cmp x x ≡ Less = up j i x x more q p in absurd (never x x before before))
    ]
  ]

-- lists with the same members in turn are the same, in an order of which no two things stand before each other
module _ {X : Type 0} (Before : X → X → Type 0) (never : (c d : X) → Before c d → Before d c → ⊥) where
  rest_in_turn : (c : X) (cs : List X) → InTurn Before (c ∷ cs) → InTurn Before cs
  rest_in_turn c cs up i j x y l p q = up (suc i) (suc j) x y (omega (arith, l)) p q

  first_before : (c : X) (cs : List X) → InTurn Before (c ∷ cs) → (d : X) → Contains cs d → Before c d
  first_before c cs up d h = let (i, at) = place_of cs d h in up 0 (suc i) c d (omega arith) refl at

  not_itself : (c d : X) → c ≡ d → Before c d → ⊥
  not_itself c d e before = let again : Before c c = subst (λ (x : X). Before c x) (sym e) before in never c c again again

  -- what stands behind the first of one list stands behind the first of the other
  behind : (c d : X) (cs ds : List X) → InTurn Before (c ∷ cs) → c ≡ d → ((z : X) → Contains (c ∷ cs) z → Contains (d ∷ ds) z) → (z : X) → Contains cs z → Contains ds z
  behind c d cs ds up e into z h = elim (in_cons d z ds (into z (in_later c z cs h))) [
    | inl is ↦ absurd (not_itself c z (e ∙ is) (first_before c cs up z h))
    | inr later ↦ later
  ]

  pub one_list : (cs ds : List X) → InTurn Before cs → InTurn Before ds → ((z : X) → Contains cs z ↔ Contains ds z) → cs ≡ ds
  one_list [] [] up down same = refl
  one_list [] (d ∷ ds) up down same = absurd (in_none d ((same d).1 (in_here d ds)))
  one_list (c ∷ cs) [] up down same = absurd (in_none c ((same c).0 (in_here c cs)))
  one_list (c ∷ cs) (d ∷ ds) up down same =
      let first : c ≡ d = elim (in_cons d c ds ((same c).0 (in_here c cs))) [
        | inl e ↦ sym e
        | inr later ↦ (elim (in_cons c d cs ((same d).1 (in_here d ds))) [
          | inl e ↦ e
          | inr later_too ↦ absurd (never c d (first_before c cs up d later_too) (first_before d ds down c later))
        ])
      ] in
      let rest : (z : X) → Contains cs z ↔ Contains ds z = λ z. (
        behind c d cs ds up first (λ y. (same y).0) z,
        behind d c ds cs down (sym first) (λ y. (same y).1) z,
      ) in
      ap₂ (λ (x : X) (xs : List X). x ∷ xs) first (one_list cs ds (rest_in_turn c cs up) (rest_in_turn d ds down) rest)
