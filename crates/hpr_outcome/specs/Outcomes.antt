-- What comes of an integration of a base and its variants, with all that a tool wants to know of it.
--
-- IsClashTold g rank issued o == o is the first leaf of g's arrangements and its clash, or there is none
-- IsMergedBy rank issued tries p s == the program p is found for the graph of s, by this rank, as the leaf of
--                               the number that s tells, within the tries: with one fewer they are spent
-- IsNoneBy rank issued tries s o == no program has the graph of s, whose arrangements have as many leaves as
--                               s tells, no more than the tries; and o is their first clash
-- IsSpentBy rank issued tries s o == there are more leaves than tries, all of which s tells, and none of the
--                               first so many fits; and o is their first clash
-- IsSoughtFrom m s            == s has the graph and the new tags of what is searched
-- IsSoughtFor base vs s P     == s has the graph that is searched for a base and its variants, and the list of
--                               the parts that got new tags; and P of the rank and of the issued numbers
-- IfInterference o P, IfMerged o P, IfNoProgram o P, IfSpent o P == P of what o has, where o is that
use Rattle.std.specs.Prelude.{◌≡◌, ◌≤◌, ℕ, ◌-◌, Option, None, Some, List}
use Rattle.hpr_syntax.specs.Issued.{Issued}
use Rattle.hpr_syntax.specs.Tree.{Tree}
use Rattle.hpr_graph.specs.declared.conflict.Conflict.{Conflict}
use Rattle.hpr_graph.specs.declared.conflict.ManyConflict.{ManyConflict}
use Rattle.hpr_graph.specs.declared.vertex.Vertex.{Vertex}
use Rattle.hpr_graph.specs.Answer.{AreSplitOff, HasNoProgram, IsFound, IsSearchedRankOf, printed, searched_graph_of}
use Rattle.hpr_graph.specs.Answer.{searched_issued_of, spent}
use Rattle.hpr_graph.specs.Graphs.{Same}
use Rattle.hpr_graph.specs.Leaves.{AreLeavesSpent}
use Rattle.hpr_graph.specs.Numbered.{Numbered, graph_in}
use Rattle.hpr_rebuild.specs.declared.clash.FirstClash.{FirstClash}
use Rattle.hpr_rebuild.specs.FirstClash.{HasNoFirstClash, IsClashOf}
use Rattle.hpr_rebuild.specs.Tries.{AreSoMany, IsFoundWithin}
use Rattle.hpr_engine.specs.declared.search.Searched.{Searched}
use Rattle.hpr_outcome.specs.declared.outcome.Outcome.{Outcome}
use Rattle.hpr_outcome.specs.declared.outcome.Outcome.TheVariants.{Interference, Merged, NoProgram, Spent}
use Rattle.hpr_outcome.specs.declared.outcome.Sought.{Sought}

abbrev pub IsClashTold : Numbered → List Vertex → Issued → Option FirstClash → Type 0
IsClashTold g rank issued None = HasNoFirstClash (graph_in g) rank issued
IsClashTold g rank issued (Some f) = IsClashOf g rank issued f

abbrev pub IsMergedBy : List Vertex → Issued → ℕ → Tree → Sought → Type 0
IsMergedBy rank issued tries p s =
    IsFound {X = Conflict} (graph_in s.graph) rank issued tries (printed p)
    × IsFoundWithin (graph_in s.graph) rank issued s.tries p
    × AreLeavesSpent (graph_in s.graph) rank issued (s.tries - 1) × (s.tries ≤ tries)

abbrev pub IsNoneBy : List Vertex → Issued → ℕ → Sought → Option FirstClash → Type 0
IsNoneBy rank issued tries s o =
    HasNoProgram (graph_in s.graph) × AreSoMany (graph_in s.graph) rank issued s.tries × (s.tries ≤ tries)
    × IsClashTold s.graph rank issued o

abbrev pub IsSpentBy : List Vertex → Issued → ℕ → Sought → Option FirstClash → Type 0
IsSpentBy rank issued tries s o =
    IsFound {X = Conflict} (graph_in s.graph) rank issued tries spent × (s.tries ≡ tries)
    × IsClashTold s.graph rank issued o

abbrev pub IsSoughtFrom : Searched → Sought → Type 0
IsSoughtFrom m s = (s.graph ≡ m.graph) × (s.renamed ≡ m.renamed)

abbrev pub IsSoughtFor : Tree → List Tree → Sought → (List Vertex → Issued → Type 0) → Type 0
IsSoughtFor base vs s P =
    AreSplitOff base vs s.renamed.items × Same (graph_in s.graph) (searched_graph_of s.renamed.items base vs)
    × ((rank : List Vertex) × IsSearchedRankOf s.renamed.items base vs rank
    × P rank (searched_issued_of s.renamed.items base vs))

abbrev pub IfInterference : Outcome → (List ManyConflict → Type 0) → Type 0
IfInterference (Interference cs) P = P cs.items
IfInterference (Merged p s) P = Unit {0}
IfInterference (NoProgram s o) P = Unit {0}
IfInterference (Spent s o) P = Unit {0}

abbrev pub IfMerged : Outcome → (Tree → Sought → Type 0) → Type 0
IfMerged (Interference cs) P = Unit {0}
IfMerged (Merged p s) P = P p s
IfMerged (NoProgram s o) P = Unit {0}
IfMerged (Spent s o) P = Unit {0}

abbrev pub IfNoProgram : Outcome → (Sought → Option FirstClash → Type 0) → Type 0
IfNoProgram (Interference cs) P = Unit {0}
IfNoProgram (Merged p s) P = Unit {0}
IfNoProgram (NoProgram s o) P = P s o
IfNoProgram (Spent s o) P = Unit {0}

abbrev pub IfSpent : Outcome → (Sought → Option FirstClash → Type 0) → Type 0
IfSpent (Interference cs) P = Unit {0}
IfSpent (Merged p s) P = Unit {0}
IfSpent (NoProgram s o) P = Unit {0}
IfSpent (Spent s o) P = P s o
