-- Lists in ascending order: each item comes before those behind it.
use Rattle.std.proofs.Common.{◌≡◌, ◌≢◌, false, ℕ, zero, suc, ◌<◌, ◌↔◌, ◌⊎◌, inl, inr, Some, List, [], ◌∷◌, ◌++◌, length, map, set, get_or, Contains, slice_get, refl, sym, ap, ap₂, ◌∙◌, subst, arith}
use Rattle.std.specs.declared.cmp.Ordering.{Ordering}
use Rattle.std.specs.declared.cmp.Ordering.TheVariants.{Less, Equal, Greater}
use Rattle.std.specs.Ordering.{ordering_reverse, is_lt}
use Rattle.std.specs.Cmp.{IsTotalOrder}
use Rattle.std.specs.List.{swap}
use Rattle.std.specs.List.Sorted.{IsSorted, IsPermutation}
use Rattle.std.proofs.lemmas.Bool.{cases_eq, cases_lt}
use Rattle.std.proofs.lemmas.List.{length-set}
use Rattle.std.proofs.lemmas.List.Edits.{swap_is}
use Rattle.std.proofs.lemmas.List.Elements.{Contains-append_cases}
use Rattle.std.proofs.lemmas.List.Sorted.{IsPermutation-keeps, ranks_by, sorted_far}
use Rattle.std.proofs.lemmas.Option.{slice_get-get_or, slice_get_within, get_or_from_slice_get}
use Rattle.hpr_terms.proofs.Facts.{map_in}
use Rattle.hpr_graph.specs.Graphs.{IsOnce}
use Rattle.hpr_graph.specs.InOrder.{Ascends}
use Rattle.hpr_graph.proofs.Lists.{some_inj, contains_at, place_of, in_none, in_cons, in_here, in_later, get_set_same, get_set_other}

-- no two items come before each other
abbrev pub Never : {X : Type 0} → (X → X → Ordering) → Type 0
Never {X} cmp = (x y : X) → cmp x y ≡ Less → cmp y x ≡ Less → ⊥

less_greater : Less ≡ Greater → ⊥
less_greater e = cc

pub never_both : {X : Type 0} (cmp : X → X → Ordering) → IsTotalOrder cmp → Never cmp
never_both cmp total x y a b = less_greater (sym a ∙ total.antisymm x y ∙ ap ordering_reverse b)

module _ {X : Type 0} (cmp : X → X → Ordering) where
  abbrev pub Rises : List X → Type 0
  Rises [] = Unit {0}
  Rises (x ∷ xs) = ((y : X) → Contains xs y → cmp x y ≡ Less) × Rises xs

  pub rises : (xs : List X) → Ascends cmp xs → Rises xs
  rises [] up = tt
  rises (x ∷ xs) up = (
    λ y h. (let (i, at) = place_of xs y h in up 0 (suc i) x y (omega arith) refl at),
    rises xs (λ i j a b l p q. up (suc i) (suc j) a b (omega (arith, l)) p q),
  )

  pub ascends : (xs : List X) → Rises xs → Ascends cmp xs
  ascends [] r i j x y l p q = absurd cc
  ascends (z ∷ xs) r i zero x y l p q = absurd (omega (arith, l))
  ascends (z ∷ xs) r zero (suc j) x y l p q = let e : z ≡ x = cc in subst (λ (w : X). cmp w y ≡ Less) e (r.0 y (contains_at xs j y q))
  ascends (z ∷ xs) r (suc i) (suc j) x y l p q = ascends xs r.1 i j x y (omega (arith, l)) p q

  pub rises_append : (xs ys : List X) → Rises xs → Rises ys → ((x y : X) → Contains xs x → Contains ys y → cmp x y ≡ Less) → Rises (xs ++ ys)
  rises_append [] ys r s apart = s
  rises_append (x ∷ xs) ys r s apart = (
    λ y h. elim (Contains-append_cases xs ys y h) [ inl a ↦ r.0 y a | inr b ↦ apart x y (in_here x xs) b ],
    rises_append xs ys r.1 s (λ a b p q. apart a b (in_later x a xs p) q),
  )

  -- lists that ascend and have the same items are equal
  one_order : Never cmp → (xs ys : List X) → Rises xs → Rises ys → ((z : X) → Contains xs z ↔ Contains ys z) → xs ≡ ys
  one_order never [] [] r s same = refl
  one_order never [] (y ∷ ys) r s same = absurd (in_none y ((same y).1 (in_here y ys)))
  one_order never (x ∷ xs) [] r s same = absurd (in_none x ((same x).0 (in_here x xs)))
  one_order never (x ∷ xs) (y ∷ ys) r s same =
      let first : x ≡ y = elim (in_cons y x ys ((same x).0 (in_here x xs))) [
        | inl e ↦ sym e
        | inr a ↦ (elim (in_cons x y xs ((same y).1 (in_here y ys))) [ inl e ↦ e | inr b ↦ absurd (never x y (r.0 y b) (s.0 x a)) ])
      ] in
      let rest : (z : X) → Contains xs z ↔ Contains ys z = λ z. (
        λ h. elim (in_cons y z ys ((same z).0 (in_later x z xs h))) [
          | inl e ↦ (let less : cmp x x ≡ Less = subst (λ (w : X). cmp x w ≡ Less) (sym (first ∙ e)) (r.0 z h) in absurd (never x x less less))
          | inr a ↦ a
        ],
        λ h. elim (in_cons x z xs ((same z).1 (in_later y z ys h))) [
          | inl e ↦ (let less : cmp y y ≡ Less = subst (λ (w : X). cmp y w ≡ Less) (sym (sym first ∙ e)) (s.0 z h) in absurd (never y y less less))
          | inr a ↦ a
        ],
      ) in
      ap₂ (λ (z : X) (zs : List X). z ∷ zs) first (one_order never xs ys r.1 s.1 rest)

  pub ascending_one : Never cmp → (xs ys : List X) → Ascends cmp xs → Ascends cmp ys → ((z : X) → Contains xs z ↔ Contains ys z) → xs ≡ ys
  ascending_one never xs ys a b same = one_order never xs ys (rises xs a) (rises ys b) same

  -- nothing stands twice in a list that ascends
  pub ascending_once : Never cmp → (xs : List X) → Ascends cmp xs → IsOnce xs
  ascending_once never xs up i j x p q = elim (cases_lt i j) [
    | inl l ↦ (let less : cmp x x ≡ Less = up i j x x l p q in absurd (never x x less less))
    | inr g ↦ (elim (cases_lt j i) [
      | inl l ↦ (let less : cmp x x ≡ Less = up j i x x l q p in absurd (never x x less less))
      | inr h ↦ omega (arith, g, h)
    ])
  ]

  turned_less : (o : Ordering) → is_lt o ≡ false → (o ≡ Equal → ⊥) → ordering_reverse o ≡ Less
  turned_less Less h ne = absurd cc
  turned_less Equal h ne = absurd (ne refl)
  turned_less Greater h ne = refl

  -- what a sort gives ascends where nothing stands twice
  pub ascending_sorted : IsTotalOrder cmp → ((x y : X) → cmp x y ≡ Equal → x ≡ y) → (xs : List X) → IsOnce xs → IsSorted cmp xs → Ascends cmp xs
  ascending_sorted total tied xs once up i j x y l p q =
      let lj : j < length xs = slice_get_within xs j y q in
      let xi : get_or xs i x ≡ x = get_or_from_slice_get xs i x x p in
      let yj : get_or xs j x ≡ y = get_or_from_slice_get xs j y x q in
      let far : is_lt (cmp (get_or xs j x) (get_or xs i x)) ≡ false =
      sorted_far (λ a b. is_lt (cmp a b)) (ranks_by total (λ a. a)) xs up i j x (omega (arith, l)) lj in
      let near : is_lt (cmp y x) ≡ false = subst (λ (a : X). is_lt (cmp a x) ≡ false) yj (subst (λ (b : X). is_lt (cmp (get_or xs j x) b) ≡ false) xi far) in
      let apart : cmp y x ≡ Equal → ⊥ = λ e.
      (let same : i ≡ j = once i j x p (q ∙ ap Some (tied y x e)) in omega (arith, l, same)) in
      total.antisymm x y ∙ turned_less (cmp y x) near apart

-- the order that a list has is the order of an equal comparison
pub ascends_by : {X : Type 0} (cmp ord : X → X → Ordering) → ((x y : X) → cmp x y ≡ ord x y) → (xs : List X) → Ascends cmp xs → Ascends ord xs
ascends_by cmp ord same xs up i j x y l p q = sym (same x y) ∙ up i j x y l p q

pub total_by : {X : Type 0} (cmp ord : X → X → Ordering) → ((x y : X) → cmp x y ≡ ord x y) → IsTotalOrder cmp → IsTotalOrder ord
total_by cmp ord same total = record {
  antisymm = λ x y. sym (same x y) ∙ total.antisymm x y ∙ ap ordering_reverse (same y x);
  trans = λ x y z a b. sym (same x z) ∙ total.trans x y z (same x y ∙ a) (same y z ∙ b);
  congr = λ x y z e. sym (same x z) ∙ total.congr x y z (same x y ∙ e) ∙ same y z;
}

module _ {X Y : Type 0} (cmp : X → X → Ordering) (ord : Y → Y → Ordering) (f : X → Y) where
  pub rises_map : (xs : List X) → Rises cmp xs → ((a b : X) → Contains xs a → Contains xs b → cmp a b ≡ Less → ord (f a) (f b) ≡ Less) → Rises ord (map f xs)
  rises_map [] r keeps = tt
  rises_map (x ∷ xs) r keeps = (
    λ y h.
        (let (z, there, is) = map_in f xs y h in
        subst (λ (w : Y). ord (f x) w ≡ Less) is (keeps x z (in_here x xs) (in_later x z xs there) (r.0 z there))),
    rises_map xs r.1 (λ a b p q l. keeps a b (in_later x a xs p) (in_later x b xs q) l),
  )

-- where the item at k stood before those at i and j changed places
abbrev Came : ℕ → ℕ → ℕ → ℕ → Type 0
Came i j k p = ((k ≡ j) × (p ≡ i)) ⊎ ((k ≢ j) × (((k ≡ i) × (p ≡ j)) ⊎ ((k ≢ i) × (p ≡ k))))

came_once : (i j k m p q : ℕ) → Came i j k p → Came i j m q → p ≡ q → k ≡ m
came_once i j k m p q (inl (a, b)) (inl (c, d)) e = omega (arith, a, b, c, d, e)
came_once i j k m p q (inl (a, b)) (inr (n, inl (c, d))) e = absurd (n (omega (arith, a, b, c, d, e)))
came_once i j k m p q (inl (a, b)) (inr (n, inr (o, d))) e = absurd (o (omega (arith, a, b, d, e)))
came_once i j k m p q (inr (n, inl (a, b))) (inl (c, d)) e = absurd (n (omega (arith, a, b, c, d, e)))
came_once i j k m p q (inr (n, inl (a, b))) (inr (n', inl (c, d))) e = omega (arith, a, b, c, d, e)
came_once i j k m p q (inr (n, inl (a, b))) (inr (n', inr (o, d))) e = absurd (n' (omega (arith, a, b, d, e)))
came_once i j k m p q (inr (n, inr (o, b))) (inl (c, d)) e = absurd (o (omega (arith, b, c, d, e)))
came_once i j k m p q (inr (n, inr (o, b))) (inr (n', inl (c, d))) e = absurd (n (omega (arith, b, c, d, e)))
came_once i j k m p q (inr (n, inr (o, b))) (inr (n', inr (o', d))) e = omega (arith, b, d, e)

module _ {X : Type 0} where
  came : (xs : List X) (i j : ℕ) → i < length xs → j < length xs → (k : ℕ) (x : X) → slice_get (swap xs i j) k ≡ Some x → (p : ℕ) × (slice_get xs p ≡ Some x) × Came i j k p
  came xs i j li lj k x at =
      let there : slice_get (set (set xs i (get_or xs j x)) j (get_or xs i x)) k ≡ Some x =
      subst (λ (ys : List X). slice_get ys k ≡ Some x) (sym (swap_is xs i j x li lj)) at in
      elim (cases_eq k j) [
        | inl e ↦ (let same = get_set_same (set xs i (get_or xs j x)) j (get_or xs i x) (omega (arith, lj, length-set xs i (get_or xs j x))) in
            let is : get_or xs i x ≡ x = some_inj (get_or xs i x) x (sym same ∙ subst (λ (m : ℕ). slice_get (set (set xs i (get_or xs j x)) j (get_or xs i x)) m ≡ Some x) e there) in
            (i, slice_get-get_or xs i x li ∙ ap Some is, inl (e, refl)))
        | inr ne ↦ (let first : slice_get (set xs i (get_or xs j x)) k ≡ Some x = sym (get_set_other (set xs i (get_or xs j x)) j k (get_or xs i x) ne) ∙ there in
            elim (cases_eq k i) [
              | inl e ↦ (let is : get_or xs j x ≡ x = some_inj (get_or xs j x) x
                  (sym (get_set_same xs i (get_or xs j x) li) ∙ subst (λ (m : ℕ). slice_get (set xs i (get_or xs j x)) m ≡ Some x) e first) in
                  (j, slice_get-get_or xs j x lj ∙ ap Some is, inr (ne, inl (e, refl))))
              | inr ne' ↦ (k, sym (get_set_other xs i k (get_or xs j x) ne') ∙ first, inr (ne, inr (ne', refl)))
            ])
      ]

  -- nothing stands twice in another order of a list in which nothing does
  pub once_permuted : (xs ys : List X) → IsPermutation xs ys → IsOnce xs → IsOnce ys
  once_permuted xs ys moved once =
      IsPermutation-keeps xs (λ zs. IsOnce zs) once (λ zs i j li lj before k m x a b.
      (let (p, at, from) = came zs i j li lj k x a in
      let (q, at', from') = came zs i j li lj m x b in
      came_once i j k m p q from from' (before p q x at at'))) ys moved
