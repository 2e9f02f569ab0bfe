-- What a search for a program that has a graph answers.
--
-- IfFound r P     == P of the program that was found and of the number of tries
-- IfNoProgram r P == P of the number of tries, where no program has the graph
-- IfSpent r P     == P, where the tries are spent
use Rattle.std.specs.Prelude.{ℕ}
use Rattle.hpr_syntax.specs.Tree.{Tree}
use Rattle.hpr_rebuild.specs.declared.search.Rebuilt.{Rebuilt}
use Rattle.hpr_rebuild.specs.declared.search.Rebuilt.TheVariants.{Found, NoProgram, Spent}

abbrev pub IfFound : Rebuilt → (Tree → ℕ → Type 0) → Type 0
IfFound (Found p n) P = P p n
IfFound (NoProgram n) P = Unit {0}
IfFound Spent P = Unit {0}

abbrev pub IfNoProgram : Rebuilt → (ℕ → Type 0) → Type 0
IfNoProgram (Found p n) P = Unit {0}
IfNoProgram (NoProgram n) P = P n
IfNoProgram Spent P = Unit {0}

abbrev pub IfSpent : Rebuilt → Type 0 → Type 0
IfSpent (Found p n) P = Unit {0}
IfSpent (NoProgram n) P = Unit {0}
IfSpent Spent P = P
