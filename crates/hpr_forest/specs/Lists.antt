-- Ascending lists of exactly the things of one kind.
--
-- LexLess s t            == s comes before t in lexicographic order, a list before each that it begins
-- IsAscending Before xs  == strictly ascending: each comes before all those behind it
-- IsListOf Before Is xs  == the list has exactly the things for which Is holds, each once, in ascending order
use Rattle.std.specs.Prelude.{◌≡◌, ℕ, ◌<◌, List, [], ◌∷◌, ◌⊎◌, Contains}

abbrev pub LexLess : List ℕ → List ℕ → Type 0
LexLess [] [] = ⊥
LexLess [] (b ∷ t) = Unit {0}
LexLess (a ∷ s) [] = ⊥
LexLess (a ∷ s) (b ∷ t) = (a < b) ⊎ ((a ≡ b) × LexLess s t)

module _ {X : Type 0} where
  abbrev pub IsAscending : (X → X → Type 0) → List X → Type 0
  IsAscending Before [] = Unit {0}
  IsAscending Before (x ∷ xs) = ((y : X) → Contains xs y → Before x y) × IsAscending Before xs

  pub record IsListOf (Before : X → X → Type 0) (Is : X → Type 0) (xs : List X) : Type 0 where
    pub sound : (x : X) → Contains xs x → Is x
    pub complete : (x : X) → Is x → Contains xs x
    pub ascending : IsAscending Before xs
