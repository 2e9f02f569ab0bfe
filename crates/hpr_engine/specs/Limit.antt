-- The limit on the graphs of programs, which the 1989 paper has not.
--
-- HasTooManyEdges p       == the graph of the program p has more
-- AreAllInLimit ps        == the graphs of all these programs are within the limit
-- IsFirstTooLargeOf ps n  == the program at the place n is the first of these whose graph has too many edges
-- AreInLimit base a b     == the graphs of all three programs are within the limit
use Rattle.std.specs.Prelude.{ℕ, zero, suc, List, [], ◌∷◌}
use Rattle.hpr_terms.specs.declared.limits.TheConstants.{MAX_EDGES}
use Rattle.hpr_syntax.specs.Tree.{Tree}
use Rattle.hpr_graph.specs.Graphs.{HasMoreEdges}
use Rattle.hpr_graph.specs.ProgramGraph.{graph_of}

abbrev pub HasTooManyEdges : Tree → Type 0
HasTooManyEdges p = HasMoreEdges (graph_of p) MAX_EDGES

abbrev pub AreAllInLimit : List Tree → Type 0
AreAllInLimit [] = Unit {0}
AreAllInLimit (p ∷ []) = ¬ HasTooManyEdges p
AreAllInLimit (p ∷ q ∷ ps) = (¬ HasTooManyEdges p) × AreAllInLimit (q ∷ ps)

abbrev pub IsFirstTooLargeOf : List Tree → ℕ → Type 0
IsFirstTooLargeOf [] n = ⊥
IsFirstTooLargeOf (p ∷ ps) zero = HasTooManyEdges p
IsFirstTooLargeOf (p ∷ ps) (suc n) = (¬ HasTooManyEdges p) × IsFirstTooLargeOf ps n

abbrev pub AreInLimit : Tree → Tree → Tree → Type 0
AreInLimit base a b = AreAllInLimit (base ∷ a ∷ b ∷ [])
