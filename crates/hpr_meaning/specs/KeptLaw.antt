-- The law of kept meaning: what a program keeps of a base and any number of variants (Reps and Yang 1988;
-- Horwitz, Prins and Reps 1989, of two). Of two variants it gives `Keeps`.
--
-- Finished           == a program with a number of steps and final values
-- DoesFinish s r     == the program ends normally from the state s within the steps, with the final values
-- programs_of rs     == the programs
-- steps_in rs        == the steps of all of them together
-- HasChanged f0 f r  == f has each final value of r that f0 hasn't
-- HasValue x v r     == r has the final value v for x
-- IsKeptOf f0 rs f   == f has each final value that one of rs changed, and each that base and all of rs agree
--                       on
-- KeepsAll base vs m == from every state from which base and all variants end normally, m ends normally
--                       within as many steps as they took together, with the variant's value for each final
--                       variable that a variant changed, and the common value where all agree
use Rattle.std.specs.Prelude.{◌≡◌, ℕ, ◌+◌, List, [], ◌∷◌, Contains}
use Rattle.std.specs.List.{AllByRecursion}
use Rattle.hpr_syntax.specs.Meaning.{Ends}
use Rattle.hpr_syntax.specs.Run.{FinalValues}
use Rattle.hpr_syntax.specs.Tree.{Tree}
use Rattle.hpr_syntax.specs.declared.value.Value.{Value}
use Rattle.hpr_syntax.specs.Values.{Values}

pub record Finished : Type 0 where
  pub program : Tree
  pub steps : ℕ
  pub finals : FinalValues

abbrev pub DoesFinish : Values → Finished → Type 0
DoesFinish s r = Ends r.program s r.steps r.finals

abbrev pub programs_of : List Finished → List Tree
programs_of [] = []
programs_of (r ∷ rs) = r.program ∷ programs_of rs

abbrev pub steps_in : List Finished → ℕ
steps_in [] = 0
steps_in (r ∷ rs) = r.steps + steps_in rs

-- A final value that base lacks, or has with another value, is changed.
abbrev pub HasChanged : FinalValues → FinalValues → Finished → Type 0
HasChanged f0 f r = (x : List ℕ) (v : Value) → Contains r.finals (x, v) → ¬ Contains f0 (x, v) → Contains f (x, v)

abbrev pub HasValue : List ℕ → Value → Finished → Type 0
HasValue x v r = Contains r.finals (x, v)

pub record IsKeptOf (f0 : FinalValues) (rs : List Finished) (f : FinalValues) : Type 0 where
  pub changed : AllByRecursion (HasChanged f0 f) rs
  pub agreed : (x : List ℕ) (v : Value) → Contains f0 (x, v) → AllByRecursion (HasValue x v) rs → Contains f (x, v)

abbrev pub KeepsAll : Tree → List Tree → Tree → Type 0
KeepsAll base vs m =
    (s : Values) (n0 : ℕ) (f0 : FinalValues) (rs : List Finished) → programs_of rs ≡ vs
    → Ends base s n0 f0 → AllByRecursion (DoesFinish s) rs
    → (f : FinalValues) × Ends m s (n0 + steps_in rs) f × IsKeptOf f0 rs f
