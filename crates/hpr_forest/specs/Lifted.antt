-- An order asked of items anywhere in a forest, and the order of siblings that follows from it.
--
-- IsLeft l s t    == s stands somewhere before t in the list
-- Leads f a via x == from a down to x through these items, each under the one before; the last is x, or x is
--                    a
-- IsLifted f E    == what must come before each item is exactly what E asks of siblings or of items under
--                    them, and E asks nothing that no order gives
-- Respects E l    == where E asks s before t, s stands before t in the list (a linear extension of E, where
--                    the list is one of all items)
use Rattle.std.specs.Prelude.{◌≡◌, ℕ, Some, List, [], ◌∷◌, ◌++◌, ◌⊎◌, Contains}
use Rattle.hpr_forest.specs.Forest.{Forest}

abbrev pub IsLeft : List ℕ → ℕ → ℕ → Type 0
IsLeft l s t = (l1 l2 : List ℕ) × (l ≡ l1 ++ t ∷ l2) × Contains l1 s

abbrev pub Leads : Forest → ℕ → List ℕ → ℕ → Type 0
Leads f a [] x = a ≡ x
Leads f a (c ∷ via) x = (f.parent c ≡ Some a) × Leads f c via x

pub record IsLifted (f : Forest) (E : ℕ → ℕ → Type 0) : Type 0 where
  pub sound : (x d : ℕ) → Contains (f.before x) d → (f.parent d ≡ f.parent x) × (d ≡ x → ⊥) × ((s t : ℕ) × (a b : List ℕ) × E s t × Leads f d a s × Leads f x b t)
  pub complete : (s t : ℕ) → E s t → (s ≡ t) ⊎ (((c : ℕ) × (via : List ℕ) × Leads f s (c ∷ via) t) ⊎ ((x d : ℕ) × (a b : List ℕ) × Contains (f.before x) d × Leads f d a s × Leads f x b t))

abbrev pub Respects : (ℕ → ℕ → Type 0) → List ℕ → Type 0
Respects E l = (s t : ℕ) → E s t → (s ≡ t) ⊎ IsLeft l s t
