-- What it means to keep the meaning of two variants of a base, whatever the contents mean.
--
-- Ends p s n f       == from the state s, p ends normally within n steps, with the final values f: exactly
--                       the names of its `end`
-- IsKept f0 f1 f2 f  == f has each final value that a variant changed, and each that all three agree on
-- Keeps base a b m   == from every state from which base and both variants end normally, m ends normally
--                       within as many steps as the three took together, with the variant's value for each
--                       final variable that a variant changed, and the common value where all three agree
use Rattle.hpr_meaning.specs.Any.Meaning.{Meaning}
use Rattle.std.specs.Prelude.{◌≡◌, ℕ, ◌+◌, List, Contains}
use Rattle.hpr_syntax.specs.Tree.{Tree}
use Rattle.hpr_meaning.specs.Any.Run.{FinalValues, ends, run}

module _ (M : Meaning) where
  abbrev pub Ends : Tree → M.State → ℕ → FinalValues M → Type 0
  Ends p s n f = (steps : ℕ) × (run M p s n ≡ ends f steps)

-- A final value that base lacks, or has with another value, is changed.
pub record IsKept (M : Meaning) (f0 f1 f2 f : FinalValues M) : Type 0 where
  pub changed_by_a : (x : List ℕ) (v : M.Value) → Contains f1 (x, v) → ¬ Contains f0 (x, v) → Contains f (x, v)
  pub changed_by_b : (x : List ℕ) (v : M.Value) → Contains f2 (x, v) → ¬ Contains f0 (x, v) → Contains f (x, v)
  pub agreed : (x : List ℕ) (v : M.Value) → Contains f0 (x, v) → Contains f1 (x, v) → Contains f2 (x, v) → Contains f (x, v)

module _ (M : Meaning) where
  abbrev pub Keeps : Tree → Tree → Tree → Tree → Type 0
  Keeps base a b m =
      (s : M.State) (n0 n1 n2 : ℕ) (f0 f1 f2 : FinalValues M) → Ends M base s n0 f0 → Ends M a s n1 f1 → Ends M b s n2 f2
      → (f : FinalValues M) × Ends M m s (n0 + n1 + n2) f × IsKept M f0 f1 f2 f
