-- The law of kept meaning, whatever the contents mean: what a program keeps of a base and any number of
-- variants (Reps and Yang 1988; Horwitz, Prins and Reps 1989, of two). Of two variants it gives `Keeps`.
--
-- Finished           == a program with a number of steps and final values
-- DoesFinish s r     == the program ends normally from the state s within the steps, with the final values
-- programs_of rs     == the programs
-- steps_in rs        == the steps of all of them together
-- HasChanged f0 f r  == f has each final value of r that f0 hasn't
-- HasValue x v r     == r has the final value v for x
-- IsKeptOf f0 rs f   == f has each final value that one of rs changed, and each that base and all of rs agree
--                       on
-- KeepsAll base vs m == from every state from which base and all variants end normally, m ends normally
--                       within as many steps as they took together, with the variant's value for each final
--                       variable that a variant changed, and the common value where all agree
use Rattle.hpr_meaning.specs.Any.Meaning.{Meaning}
use Rattle.std.specs.Prelude.{◌≡◌, ℕ, ◌+◌, List, [], ◌∷◌, Contains}
use Rattle.std.specs.List.{AllByRecursion}
use Rattle.hpr_meaning.specs.Any.Kept.{Ends}
use Rattle.hpr_meaning.specs.Any.Run.{FinalValues}
use Rattle.hpr_syntax.specs.Tree.{Tree}

pub record Finished (M : Meaning) : Type 0 where
  pub program : Tree
  pub steps : ℕ
  pub finals : FinalValues M

module _ (M : Meaning) where
  abbrev pub DoesFinish : M.State → Finished M → Type 0
  DoesFinish s r = Ends M r.program s r.steps r.finals

  abbrev pub programs_of : List (Finished M) → List Tree
  programs_of [] = []
  programs_of (r ∷ rs) = r.program ∷ programs_of rs

  abbrev pub steps_in : List (Finished M) → ℕ
  steps_in [] = 0
  steps_in (r ∷ rs) = r.steps + steps_in rs

  -- A final value that base lacks, or has with another value, is changed.
  abbrev pub HasChanged : FinalValues M → FinalValues M → Finished M → Type 0
  HasChanged f0 f r = (x : List ℕ) (v : M.Value) → Contains r.finals (x, v) → ¬ Contains f0 (x, v) → Contains f (x, v)

  abbrev pub HasValue : List ℕ → M.Value → Finished M → Type 0
  HasValue x v r = Contains r.finals (x, v)

pub record IsKeptOf (M : Meaning) (f0 : FinalValues M) (rs : List (Finished M)) (f : FinalValues M) : Type 0 where
  pub changed : AllByRecursion (HasChanged M f0 f) rs
  pub agreed : (x : List ℕ) (v : M.Value) → Contains f0 (x, v) → AllByRecursion (HasValue M x v) rs → Contains f (x, v)

module _ (M : Meaning) where
  abbrev pub KeepsAll : Tree → List Tree → Tree → Type 0
  KeepsAll base vs m =
      (s : M.State) (n0 : ℕ) (f0 : FinalValues M) (rs : List (Finished M)) → programs_of M rs ≡ vs
      → Ends M base s n0 f0 → AllByRecursion (DoesFinish M s) rs
      → (f : FinalValues M) × Ends M m s (n0 + steps_in M rs) f × IsKeptOf M f0 rs f
