-- What a merge of programs answers.
--
-- number_of which                == the place of that program among base, A and B
-- IsFirstTooLarge base a b which == this is the first of the three programs, in this order, whose graph has
--                                   too many edges
-- IfTooManyEdges result P        == P of the program that is named, where its graph has too many edges
-- IfInterference result P        == P of the list of conflicts, where the variants interfere
-- IfNoProgram result P           == P of the number of parts, where no program has the merged graph
-- IfJudged result P              == P, where no graph has too many edges and memory was found
-- IsUnsearched stop              == it isn't the search for a program that stopped
use Rattle.std.specs.Prelude.{ℕ, List, [], ◌∷◌, Result, Ok, Err}
use Rattle.hpr_syntax.specs.Tree.{Tree}
use Rattle.hpr_graph.specs.declared.conflict.Conflict.{Conflict}
use Rattle.hpr_engine.specs.declared.stop.Stop.{Stop}
use Rattle.hpr_engine.specs.declared.stop.Stop.TheVariants.{TooManyEdges, Interference, NoProgram, Spent, Memory}
use Rattle.hpr_engine.specs.declared.stop.Which.{Which}
use Rattle.hpr_engine.specs.declared.stop.Which.TheVariants.{Base, A, B}
use Rattle.hpr_engine.specs.Limit.{IsFirstTooLargeOf}

abbrev pub number_of : Which → ℕ
number_of Base = 0
number_of A = 1
number_of B = 2

abbrev pub IsFirstTooLarge : Tree → Tree → Tree → Which → Type 0
IsFirstTooLarge base a b which = IsFirstTooLargeOf (base ∷ a ∷ b ∷ []) (number_of which)

abbrev pub IfTooManyEdges : {X : Type 0} → Result X Stop → (Which → Type 0) → Type 0
IfTooManyEdges (Ok x) P = Unit {0}
IfTooManyEdges (Err (TooManyEdges which)) P = P which
IfTooManyEdges (Err (Interference cs)) P = Unit {0}
IfTooManyEdges (Err (NoProgram n)) P = Unit {0}
IfTooManyEdges (Err Spent) P = Unit {0}
IfTooManyEdges (Err Memory) P = Unit {0}

abbrev pub IfInterference : {X : Type 0} → Result X Stop → (List Conflict → Type 0) → Type 0
IfInterference (Ok x) P = Unit {0}
IfInterference (Err (TooManyEdges which)) P = Unit {0}
IfInterference (Err (Interference cs)) P = P cs.items
IfInterference (Err (NoProgram n)) P = Unit {0}
IfInterference (Err Spent) P = Unit {0}
IfInterference (Err Memory) P = Unit {0}

abbrev pub IfNoProgram : {X : Type 0} → Result X Stop → (ℕ → Type 0) → Type 0
IfNoProgram (Ok x) P = Unit {0}
IfNoProgram (Err (TooManyEdges which)) P = Unit {0}
IfNoProgram (Err (Interference cs)) P = Unit {0}
IfNoProgram (Err (NoProgram n)) P = P n
IfNoProgram (Err Spent) P = Unit {0}
IfNoProgram (Err Memory) P = Unit {0}

abbrev pub IfJudged : {X : Type 0} → Result X Stop → Type 0 → Type 0
IfJudged (Ok x) P = P
IfJudged (Err (TooManyEdges which)) P = Unit {0}
IfJudged (Err (Interference cs)) P = P
IfJudged (Err (NoProgram n)) P = P
IfJudged (Err Spent) P = P
IfJudged (Err Memory) P = Unit {0}

abbrev pub IsUnsearched : Stop → Type 0
IsUnsearched (TooManyEdges which) = Unit {0}
IsUnsearched (Interference cs) = Unit {0}
IsUnsearched (NoProgram n) = ⊥
IsUnsearched Spent = ⊥
IsUnsearched Memory = Unit {0}
