-- The forests of the tests.
use Rattle.std.proofs.Common.{◌≡◌, ℕ, zero, suc, ◌<◌, true, Option, Some, None, List, [], ◌∷◌, Vec, Contains, inl, inr, refl, sym, ap, subst, arith}
use Rattle.std.specs.Global.{Global}
use Rattle.hpr_forest.proofs.Unique.{in_none, in_cons}
use Rattle.hpr_forest.specs.Forest.{Forest, IsForest, is_in}
use Rattle.hpr_forest.specs.Blocks.{forest_in}

pub record Four (r0 r1 r2 r3 b0 b1 b2 b3 : Vec ℕ Global) : Type 0 where
  pub under_zero : r0.items ≡ 1 ∷ 2 ∷ []
  pub under_one : r1.items ≡ []
  pub under_two : r2.items ≡ []
  pub under_three : r3.items ≡ []
  pub before_zero : (y : ℕ) → Contains b0.items y → y ≡ 3
  pub before_one : (y : ℕ) → Contains b1.items y → y ≡ 2
  pub before_two : (y : ℕ) → Contains b2.items y → y ≡ 1
  pub before_three : b3.items ≡ []

module _ (r0 r1 r2 r3 b0 b1 b2 b3 : Vec ℕ Global) (four : Four r0 r1 r2 r3 b0 b1 b2 b3) where
  abbrev f : Forest
  f = forest_in (None ∷ Some 0 ∷ Some 0 ∷ None ∷ []) (r0 ∷ r1 ∷ r2 ∷ r3 ∷ []) (b0 ∷ b1 ∷ b2 ∷ b3 ∷ [])

  none_in : (r : List ℕ) (y : ℕ) → r ≡ [] → Contains r y → ⊥
  none_in r y e h = in_none y (subst (λ q. Contains q y) e h)

  down : (x y : ℕ) → Contains (f.children x) y → (y < f.count) × (f.parent y ≡ Some x)
  down zero y h = elim (in_cons 1 y (2 ∷ []) (subst (λ q. Contains q y) four.under_zero h)) [
    | inl e ↦ subst (λ (z : ℕ). (z < 4) × (f.parent z ≡ Some 0)) e (omega arith, refl)
    | inr later ↦ elim (in_cons 2 y [] later) [
      | inl e ↦ subst (λ (z : ℕ). (z < 4) × (f.parent z ≡ Some 0)) e (omega arith, refl)
      | inr none ↦ absurd (in_none y none)
    ]
  ]
  down (suc zero) y h = absurd (none_in r1.items y four.under_one h)
  down (suc (suc zero)) y h = absurd (none_in r2.items y four.under_two h)
  down (suc (suc (suc zero))) y h = absurd (none_in r3.items y four.under_three h)
  down (suc (suc (suc (suc x)))) y h = absurd (in_none y h)

  up : (x y : ℕ) → f.parent y ≡ Some x → is_in (f.children x) y ≡ true
  up x zero e = absurd cc
  up x (suc zero) e = let same : 0 ≡ x = cc in subst (λ (z : ℕ). is_in (f.children z) 1 ≡ true) same (ap (λ q. is_in q 1) four.under_zero)
  up x (suc (suc zero)) e = let same : 0 ≡ x = cc in subst (λ (z : ℕ). is_in (f.children z) 2 ≡ true) same (ap (λ q. is_in q 2) four.under_zero)
  up x (suc (suc (suc zero))) e = absurd cc
  up x (suc (suc (suc (suc y)))) e = absurd cc

  siblings : (x y : ℕ) → Contains (f.before x) y → (x < f.count) × (y < f.count) × (f.parent y ≡ f.parent x)
  siblings zero y h = subst (λ (z : ℕ). (0 < 4) × (z < 4) × (f.parent z ≡ None)) (sym (four.before_zero y h)) (omega arith, omega arith, refl)
  siblings (suc zero) y h = subst (λ (z : ℕ). (1 < 4) × (z < 4) × (f.parent z ≡ Some 0)) (sym (four.before_one y h)) (omega arith, omega arith, refl)
  siblings (suc (suc zero)) y h = subst (λ (z : ℕ). (2 < 4) × (z < 4) × (f.parent z ≡ Some 0)) (sym (four.before_two y h)) (omega arith, omega arith, refl)
  siblings (suc (suc (suc zero))) y h = absurd (none_in b3.items y four.before_three h)
  siblings (suc (suc (suc (suc x)))) y h = absurd (in_none y h)

  pub four_items : IsForest f
  four_items = record { down = down; up = up; siblings = siblings }

pub four_from : (parents : List (Option ℕ)) (children before : List (Vec ℕ Global)) (r0 r1 r2 r3 b0 b1 b2 b3 : Vec ℕ Global)
    → parents ≡ None ∷ Some 0 ∷ Some 0 ∷ None ∷ [] → children ≡ r0 ∷ r1 ∷ r2 ∷ r3 ∷ [] → before ≡ b0 ∷ b1 ∷ b2 ∷ b3 ∷ []
    → Four r0 r1 r2 r3 b0 b1 b2 b3 → IsForest (forest_in parents children before)
four_from parents children before r0 r1 r2 r3 b0 b1 b2 b3 p c b four =
    subst (λ (x : List (Option ℕ)). IsForest (forest_in x children before)) (sym p)
    (subst (λ (x : List (Vec ℕ Global)). IsForest (forest_in (None ∷ Some 0 ∷ Some 0 ∷ None ∷ []) x before)) (sym c)
    (subst (λ (x : List (Vec ℕ Global)). IsForest (forest_in (None ∷ Some 0 ∷ Some 0 ∷ None ∷ []) (r0 ∷ r1 ∷ r2 ∷ r3 ∷ []) x)) (sym b)
    (four_items r0 r1 r2 r3 b0 b1 b2 b3 four)))
