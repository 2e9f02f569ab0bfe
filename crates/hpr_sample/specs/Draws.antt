-- Draws from the words of a generator, and what is drawn.
--
-- Drawn X        == what is made by draws, and the state of the generator behind them
-- draw n words   == the next word of the generator, modulo n
-- variable_name n == `v` and the digit n
-- variable words == one of `v0` to `v7`, drawn
use Rattle.std.specs.Prelude.{ℕ, ◌+◌, ◌%◌, List, [], ◌∷◌}
use Rattle.rand_xoshiro.specs.SplitMix64.{mix_u64}

pub record Drawn (X : Type 0) : Type 0 where
  pub made : X
  pub words : ℕ

unfoldable pub draw : ℕ → ℕ → Drawn ℕ
draw n words = record { made = (mix_u64 words).0 % n; words = (mix_u64 words).1 }

-- 118 is `v`, and 48 is `0`
abbrev pub variable_name : ℕ → List ℕ
variable_name n = 118 ∷ (48 + n) ∷ []

abbrev pub variable : ℕ → Drawn (List ℕ)
variable words = let digit = draw 8 words in record { made = variable_name digit.made; words = digit.words }
