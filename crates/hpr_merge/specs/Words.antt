-- Words of marks: a word for each vertex, in which each bit stands for one of up to 64 points.
--
-- HasBit w i               == the bit i of the word is set
-- column ws i              == the marks that the bits i of the words are
-- IsSpread steps old new   == each bit of old is in new, and from each vertex that has it in new the steps
--                             lead to one that has it in old
-- IsClosed steps ws        == each step's first vertex has the bits of its second
-- MarkEach steps points ws == a vertex has the bit i exactly where the steps lead from it to the point number
--                             i
use Rattle.std.specs.Prelude.{◌≡◌, ℕ, ◌↔◌, ◌==◌, Bool, Some, List, Contains, map, length, slice_get, slice_index}
use Rattle.std.specs.Int.{bit_at}
use Rattle.hpr_slice.specs.Steps.{Chain}

abbrev pub HasBit : ℕ → ℕ → Type 0
HasBit w i = bit_at w i ≡ 1

abbrev pub column : List ℕ → ℕ → List Bool
column ws i = map (λ w. bit_at w i == 1) ws

pub record IsSpread (steps : List (ℕ × ℕ)) (old new : List ℕ) : Type 0 where
  pub count : length new ≡ length old
  pub kept : (x i : ℕ) → HasBit (slice_index old x) i → HasBit (slice_index new x) i
  pub only : (x i : ℕ) → HasBit (slice_index new x) i
      → (y : ℕ) × (via : List ℕ) × HasBit (slice_index old y) i × Chain steps x via y

abbrev pub IsClosed : List (ℕ × ℕ) → List ℕ → Type 0
IsClosed steps ws =
    (from to i : ℕ) → Contains steps (from, to) → HasBit (slice_index ws to) i → HasBit (slice_index ws from) i

abbrev pub MarkEach : List (ℕ × ℕ) → List ℕ → List ℕ → Type 0
MarkEach steps points ws =
    (x i : ℕ) → HasBit (slice_index ws x) i
    ↔ ((p : ℕ) × (via : List ℕ) × (slice_get points i ≡ Some p) × Chain steps x via p)
