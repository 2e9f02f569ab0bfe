-- The first place at which two rows that ascend differ has the least item that one of them alone has.
use Rattle.std.proofs.Common.{◌≡◌, ℕ, ◌+◌, ◌<◌, ◌≤◌, inl, inr, Some, None, List, length, Contains, slice_get, get_or, sym, ap, ◌∙◌, subst, arith}
use Rattle.std.specs.Cmp.{IsTotalOrder}
use Rattle.std.specs.Ordering.{ordering_reverse}
use Rattle.std.specs.declared.cmp.Ordering.{Ordering}
use Rattle.std.specs.declared.cmp.Ordering.TheVariants.{Less, Equal, Greater}
use Rattle.std.proofs.lemmas.Bool.{cases_eq, cases_lt}
use Rattle.std.proofs.lemmas.Option.{get_or_from_slice_get, slice_get-get_or, slice_get_within}
use Rattle.hpr_terms.proofs.Facts.{contains_at, get_below, place_of, some_inj}
use Rattle.hpr_graph.specs.InOrder.{Ascends}
use Rattle.hpr_verify.specs.declared.verdict.Holder.{Holder}
use Rattle.hpr_verify.specs.declared.verdict.Holder.TheVariants.{Offered, Merged}
use Rattle.hpr_verify.specs.Difference.{IsHeldBy, IsLeastHeld}
use Rattle.hpr_verify.specs.First.{IsFirstApart, row_by}

less_greater : Less ≡ Greater → ⊥
less_greater e = cc

pub never : {X : Type 0} (cmp : X → X → Ordering) → IsTotalOrder cmp → (x y : X) → cmp x y ≡ Less → cmp y x ≡ Less → ⊥
never cmp total x y a b = less_greater (sym a ∙ total.antisymm x y ∙ ap ordering_reverse b)

pub greater_turned : {X : Type 0} (cmp : X → X → Ordering) → IsTotalOrder cmp → (x y : X) → Greater ≡ cmp x y → Less ≡ cmp y x
greater_turned cmp total x y a = ap ordering_reverse a ∙ sym (total.antisymm y x)

-- what either of two holds, with the two changed over
pub turned : {X : Type 0} (cmp : X → X → Ordering) (P Q : X → Type 0) (x : X) → IsLeastHeld cmp Q P x Offered → IsLeastHeld cmp P Q x Merged
turned {X} cmp P Q x (held, least) = (held, by)
  where
    by : (k : Holder) (y : X) → IsHeldBy k P Q y → ¬ (cmp y x ≡ Less)
    by Offered y h = least Merged y h
    by Merged y h = least Offered y h

pub merged_first : {X : Type 0} (cmp : X → X → Ordering) (xs ys : List X) (n : ℕ) → IsFirstApart cmp ys xs (Some (n, Offered)) → IsFirstApart cmp xs ys (Some (n, Merged))
merged_first cmp xs ys n (x, at, least) = (x, at, turned cmp (Contains xs) (Contains ys) x least)

-- both rows have the same items before the place n
abbrev pub Agree : {X : Type 0} → List X → List X → ℕ → Type 0
Agree xs ys n = (j : ℕ) → j < n → slice_get xs j ≡ slice_get ys j

pub item_at : {X : Type 0} (xs : List X) (n : ℕ) (x : X) → n < length xs → x ≡ get_or xs n x → slice_get xs n ≡ Some x
item_at xs n x within is = slice_get-get_or xs n x within ∙ ap Some (sym is)

pub agree_turned : {X : Type 0} (xs ys : List X) (n : ℕ) → Agree xs ys n → Agree ys xs n
agree_turned xs ys n agree j low = sym (agree j low)

pub agree_more : {X : Type 0} (cmp : X → X → Ordering) → ((x y : X) → cmp x y ≡ Equal → x ≡ y) → (xs ys : List X) (n : ℕ) (x y : X) → Agree xs ys n → slice_get xs n ≡ Some x → slice_get ys n ≡ Some y → Equal ≡ cmp x y → Agree xs ys (n + 1)
agree_more cmp exact xs ys n x y agree at at' tie j low = elim (cases_eq j n) [
  | inl here ↦ ap (slice_get xs) here ∙ at ∙ ap Some (exact x y (sym tie)) ∙ sym at' ∙ ap (slice_get ys) (sym here)
  | inr other ↦ agree j (omega (arith, low, other))
]

module _ {X : Type 0} (cmp : X → X → Ordering) (total : IsTotalOrder cmp) (xs ys : List X) (up : Ascends cmp xs) (n : ℕ) (x : X) (agree : Agree xs ys n) (at : slice_get xs n ≡ Some x) (above : (j : ℕ) (y : X) → n ≤ j → slice_get ys j ≡ Some y → cmp x y ≡ Less) where
  alone : IsHeldBy Offered (Contains xs) (Contains ys) x
  alone = (
    contains_at xs n x at,
    λ has.
        (let (j, there) = place_of ys x has in
        elim (cases_lt j n) [
          | inl low ↦ (let less : cmp x x ≡ Less = up j n x x low (agree j low ∙ there) at in never cmp total x x less less)
          | inr high ↦ (let less : cmp x x ≡ Less = above j x (omega (arith, high)) there in never cmp total x x less less)
        ]),
  )

  none_before : (k : Holder) (z : X) → IsHeldBy k (Contains xs) (Contains ys) z → ¬ (cmp z x ≡ Less)
  none_before Offered z (has, lacks) less =
      let (j, there) = place_of xs z has in
      elim (cases_lt j n) [
        | inl low ↦ lacks (contains_at ys j z (sym (agree j low) ∙ there))
        | inr high ↦ elim (cases_eq j n) [
          | inl same ↦
              (let is : z ≡ x = some_inj z x (sym there ∙ ap (slice_get xs) same ∙ at) in
              let itself : cmp x x ≡ Less = subst (λ (w : X). cmp w x ≡ Less) is less in
              never cmp total x x itself itself)
          | inr other ↦ never cmp total z x less (up n j x z (omega (arith, high, other)) at there)
        ]
      ]
  none_before Merged z (has, lacks) less =
      let (j, there) = place_of ys z has in
      elim (cases_lt j n) [
        | inl low ↦ lacks (contains_at xs j z (agree j low ∙ there))
        | inr high ↦ never cmp total z x less (above j z (omega (arith, high)) there)
      ]

  least : IsLeastHeld cmp (Contains xs) (Contains ys) x Offered
  least = (alone, none_before)

module _ {X : Type 0} (cmp : X → X → Ordering) (total : IsTotalOrder cmp) (xs ys : List X) (up : Ascends cmp xs) (up' : Ascends cmp ys) (n : ℕ) (agree : Agree xs ys n) where
  above_less : (x y : X) → slice_get ys n ≡ Some y → cmp x y ≡ Less → (j : ℕ) (z : X) → n ≤ j → slice_get ys j ≡ Some z → cmp x z ≡ Less
  above_less x y at less j z high there = elim (cases_eq j n) [
    | inl same ↦
        (let is : y ≡ z = some_inj y z (sym at ∙ ap (slice_get ys) (sym same) ∙ there) in
        subst (λ (w : X). cmp x w ≡ Less) is less)
    | inr other ↦ total.trans x y z less (up' n j y z (omega (arith, high, other)) at there)
  ]

  above_end : length ys ≤ n → (x : X) → (j : ℕ) (z : X) → n ≤ j → slice_get ys j ≡ Some z → cmp x z ≡ Less
  above_end end x j z high there = absurd (omega (arith, end, high, slice_get_within ys j z there))

  -- where the rows differ first, the offered one has the lesser item, or it alone goes on
  pub offered_less : (x y : X) → slice_get xs n ≡ Some x → slice_get ys n ≡ Some y → Less ≡ cmp x y → IsFirstApart cmp xs ys (Some (n, Offered))
  offered_less x y at at' less = (x, at, least cmp total xs ys up n x agree at (above_less x y at' (sym less)))

  pub offered_more : n < length xs → length ys ≤ n → IsFirstApart cmp xs ys (Some (n, Offered))
  offered_more within end =
      let (x, at) = get_below xs n within in
      (x, at, least cmp total xs ys up n x agree at (above_end end x))

  -- where there is no difference up to the end of both
  pub none_apart : length xs ≤ n → length ys ≤ n → IsFirstApart cmp xs ys None
  none_apart end end' x = (
    λ has. (let (j, there) = place_of xs x has in let w = slice_get_within xs j x there in contains_at ys j x (sym (agree j (omega (arith, w, end))) ∙ there)),
    λ has. (let (j, there) = place_of ys x has in let w = slice_get_within ys j x there in contains_at xs j x (agree j (omega (arith, w, end')) ∙ there)),
  )

-- the item at the place that was found
pub found_at : {X : Type 0} (cmp : X → X → Ordering) (xs ys row : List X) (i : ℕ) (h : Holder) (x : X) → IsFirstApart cmp xs ys (Some (i, h)) → row ≡ row_by h xs ys → x ≡ get_or row i x → IsLeastHeld cmp (Contains xs) (Contains ys) x h
found_at {X} cmp xs ys row i h x (z, at, held) is read =
    let there : slice_get row i ≡ Some z = ap (λ (zs : List X). slice_get zs i) is ∙ at in
    let same : z ≡ x = sym (get_or_from_slice_get row i z x there) ∙ sym read in
    subst (λ (w : X). IsLeastHeld cmp (Contains xs) (Contains ys) w h) same held

pub found_within : {X : Type 0} (cmp : X → X → Ordering) (xs ys row : List X) (i : ℕ) (h : Holder) → IsFirstApart cmp xs ys (Some (i, h)) → row ≡ row_by h xs ys → i < length row
found_within {X} cmp xs ys row i h (z, at, _) is = slice_get_within row i z (ap (λ (zs : List X). slice_get zs i) is ∙ at)
