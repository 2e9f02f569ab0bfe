-- Forests of numbered items, and the test of which item may be placed next.
--
-- Forest                    == how many items there are; what each stands under, if anything; what stands
--                              under it; which siblings must come before it
-- IsDistinct xs             == nothing stands twice in the list
-- IsForest f                == the children of x are exactly the items that stand under x, all below the
--                              count; what must come before x are siblings of x
-- all_in placed ys          == whether each of ys is placed
-- behind p placed           == what was placed behind the first p
-- all_full f placed xs      == whether all that stands under one of xs is placed
-- full_behind f placed xs   == the same, where there is such a list
-- is_under f placed parent  == whether nothing is left to be placed under the items behind the parent; for a
--                              top item: under any item
-- can f placed c            == whether c may be placed next: an item not yet placed, to be placed under its
--                              parent, after all that must come before it
-- bare f                    == the same forest, where no sibling must come before another
use Rattle.std.specs.Prelude.{◌≡◌, ℕ, ◌<◌, Bool, true, false, cond, eqb, ltb, Option, Some, None, List, [], ◌∷◌, Contains}
pub use Rattle.hpr_forest.specs.Marks.{is_in}

pub record Forest : Type 0 where
  pub count : ℕ
  pub parent : ℕ → Option ℕ
  pub children : ℕ → List ℕ
  pub before : ℕ → List ℕ

abbrev pub IsDistinct : List ℕ → Type 0
IsDistinct [] = Unit {0}
IsDistinct (x ∷ xs) = (Contains xs x → ⊥) × IsDistinct xs

pub record IsForest (f : Forest) : Type 0 where
  pub down : (x y : ℕ) → Contains (f.children x) y → (y < f.count) × (f.parent y ≡ Some x)
  pub up : (x y : ℕ) → f.parent y ≡ Some x → is_in (f.children x) y ≡ true
  pub siblings : (x y : ℕ) → Contains (f.before x) y → (x < f.count) × (y < f.count) × (f.parent y ≡ f.parent x)

abbrev pub all_in : List ℕ → List ℕ → Bool
all_in placed [] = true
all_in placed (y ∷ ys) = cond (is_in placed y) (all_in placed ys) false

abbrev pub behind : ℕ → List ℕ → Option (List ℕ)
behind p [] = None
behind p (x ∷ xs) = cond (eqb x p) (Some xs) (behind p xs)

module _ (f : Forest) where
  abbrev pub all_full : List ℕ → List ℕ → Bool
  all_full placed [] = true
  all_full placed (x ∷ xs) = cond (all_in placed (f.children x)) (all_full placed xs) false

  abbrev pub full_behind : List ℕ → Option (List ℕ) → Bool
  full_behind placed None = false
  full_behind placed (Some xs) = all_full placed xs

  abbrev pub is_under : List ℕ → Option ℕ → Bool
  is_under placed None = all_full placed placed
  is_under placed (Some p) = full_behind placed (behind p placed)

  abbrev pub can : List ℕ → ℕ → Bool
  can placed c = cond (ltb c f.count) (cond (is_in placed c) false (cond (is_under placed (f.parent c)) (all_in placed (f.before c)) false)) false

abbrev pub bare : Forest → Forest
bare f = record { count = f.count; parent = f.parent; children = f.children; before = λ _. [] }
