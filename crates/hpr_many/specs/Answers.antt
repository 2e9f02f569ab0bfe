-- What an integration of many variants answers.
--
-- IfManyTooManyEdges result P == P of the number of the program, 0 of base and from 1 of a variant, that is
--                                named, where its graph has too many edges
-- IfManyInterference result P == P of the list of conflicts, where the variants interfere
-- IfManyNoProgram result P  == P of the number of parts, where no program has the merged graph
-- IfManyJudged result P     == P, where no graph has too many edges and memory was found
-- IsManyUnsearched stop     == it isn't the search for a program that stopped
-- IsFirstTooLargeVariant vs n == the variant with the number n, from 1, is the first of these whose graph has
--                                too many edges
use Rattle.std.specs.Prelude.{◌≡◌, ℕ, suc, List, Result, Ok, Err}
use Rattle.hpr_syntax.specs.Tree.{Tree}
use Rattle.hpr_graph.specs.declared.conflict.ManyConflict.{ManyConflict}
use Rattle.hpr_engine.specs.Limit.{IsFirstTooLargeOf}
use Rattle.hpr_many.specs.declared.stop.ManyStop.{ManyStop}
use Rattle.hpr_many.specs.declared.stop.ManyStop.TheVariants.{TooManyEdges, Interference, NoProgram, Spent, Memory}

abbrev pub IfManyTooManyEdges : {X : Type 0} → Result X ManyStop → (ℕ → Type 0) → Type 0
IfManyTooManyEdges (Ok x) P = Unit {0}
IfManyTooManyEdges (Err (TooManyEdges n)) P = P n
IfManyTooManyEdges (Err (Interference cs)) P = Unit {0}
IfManyTooManyEdges (Err (NoProgram n)) P = Unit {0}
IfManyTooManyEdges (Err Spent) P = Unit {0}
IfManyTooManyEdges (Err Memory) P = Unit {0}

abbrev pub IfManyInterference : {X : Type 0} → Result X ManyStop → (List ManyConflict → Type 0) → Type 0
IfManyInterference (Ok x) P = Unit {0}
IfManyInterference (Err (TooManyEdges n)) P = Unit {0}
IfManyInterference (Err (Interference cs)) P = P cs.items
IfManyInterference (Err (NoProgram n)) P = Unit {0}
IfManyInterference (Err Spent) P = Unit {0}
IfManyInterference (Err Memory) P = Unit {0}

abbrev pub IfManyNoProgram : {X : Type 0} → Result X ManyStop → (ℕ → Type 0) → Type 0
IfManyNoProgram (Ok x) P = Unit {0}
IfManyNoProgram (Err (TooManyEdges n)) P = Unit {0}
IfManyNoProgram (Err (Interference cs)) P = Unit {0}
IfManyNoProgram (Err (NoProgram n)) P = P n
IfManyNoProgram (Err Spent) P = Unit {0}
IfManyNoProgram (Err Memory) P = Unit {0}

abbrev pub IfManyJudged : {X : Type 0} → Result X ManyStop → Type 0 → Type 0
IfManyJudged (Ok x) P = P
IfManyJudged (Err (TooManyEdges n)) P = Unit {0}
IfManyJudged (Err (Interference cs)) P = P
IfManyJudged (Err (NoProgram n)) P = P
IfManyJudged (Err Spent) P = P
IfManyJudged (Err Memory) P = Unit {0}

abbrev pub IsManyUnsearched : ManyStop → Type 0
IsManyUnsearched (TooManyEdges n) = Unit {0}
IsManyUnsearched (Interference cs) = Unit {0}
IsManyUnsearched (NoProgram n) = ⊥
IsManyUnsearched Spent = ⊥
IsManyUnsearched Memory = Unit {0}

abbrev pub IsFirstTooLargeVariant : List Tree → ℕ → Type 0
IsFirstTooLargeVariant vs n = (at : ℕ) × (n ≡ suc at) × IsFirstTooLargeOf vs at
