-- The answer of an integration of any number of variants, and of two (Horwitz, Prins and Reps 1989, of two,
-- who have no budget of tries).
--
-- AnswerBy X            == all conflicts, each told by an X; a program; no program has the merged graph,
--                          which has so many parts; or the budget is spent
-- Answer                == the same, where conflicts tell a side of two
-- NoneFits g ps         == no program of the list fits
-- IsFirstFit g ps m     == m fits, and none before it in the list does
-- HasNoProgram g        == no program fits
-- HasParts g n          == g has exactly n parts
-- IsFound g rank issued tries r == the first arrangement that fits; or no program, only where none fits; or
--                                  spent, only where there are more arrangements than tries and none of the
--                                  first `tries` fits, and where it is so of their leaves too
-- graphs_of ts          == the graphs of these programs
-- merged_of_all base vs == the merged graph of a base and its variants
-- issued_all base is    == each author has the greatest of these issued numbers
-- issued_of_all base vs == each author has the greatest of the issued numbers of a base and its variants
-- AreSplitOff base vs rs == rs are the parts that are split off the merged graph, each with its new tag,
--                           behind the issued serials; none where the serials don't suffice
-- searched_graph_of rs base vs == what is searched: the merged graph, with these parts under their new tags
-- IsSearchedRankOf rs base vs r == the rank by which its arrangements are tried, with the same parts under
--                                  the same tags
-- searched_issued_of rs base vs == the issued numbers that a program gets, the new tags among them
-- HasSpentLeavesOf base vs tries == by a rank of what is searched, its arrangements have more leaves than
--                                   tries, and none of the first `tries` fits
-- AreWithoutConflict at base vs == the list of conflicts is empty, where `at` tells their variant, point and
--                                  edge
-- IsFoundFor base vs tries r == what is found for what is searched
-- IsAnswerBy at base vs tries r == all conflicts where there is one; else what is found for what is searched
-- merged_of base a b, issued_of base a b, HasSpentLeaves base a b tries, IsWithoutConflict base a b, IsAnswer
-- base a b tries r
--                       == these of two variants
use Rattle.std.specs.Prelude.{◌≡◌, ℕ, ◌<◌, ◌↔◌, List, [], ◌∷◌, ◌++◌, map, Contains, length, take}
use Rattle.hpr_terms.specs.declared.tag.Tag.{Tag}
use Rattle.hpr_syntax.specs.Issued.{Issued, issued_to, raised_by}
use Rattle.hpr_syntax.specs.Tree.{Tree}
use Rattle.hpr_syntax.specs.Shape.{IsProgram}
use Rattle.hpr_graph.specs.declared.conflict.Conflict.{Conflict}
use Rattle.hpr_graph.specs.declared.edge.Edge.{Edge}
use Rattle.hpr_graph.specs.declared.vertex.Vertex.{Vertex}
use Rattle.hpr_graph.specs.Graphs.{Graph, IsOnce}
use Rattle.hpr_graph.specs.ProgramGraph.{graph_of}
use Rattle.hpr_graph.specs.Points.{merged_all}
use Rattle.hpr_graph.specs.Conflicts.{AreConflictsBy, told_as}
use Rattle.hpr_graph.specs.Rank.{IsRankOf}
use Rattle.hpr_graph.specs.Arrangements.{AreArrangements}
use Rattle.hpr_graph.specs.Leaves.{AreLeavesSpent}
use Rattle.hpr_graph.specs.Split.{AreRenamedWithin, IsSplitOff, split_graph, split_issued, split_rank}
pub use Rattle.hpr_graph.specs.Fits.{Fits, IsPart}

pub data AnswerBy (X : Type 0) : Type 0 where
  interference : (conflicts : List X) → AnswerBy X
  printed : (program : Tree) → AnswerBy X
  no_program : (parts : ℕ) → AnswerBy X
  spent : AnswerBy X

abbrev pub Answer : Type 0
Answer = AnswerBy Conflict

abbrev pub NoneFits : Graph → List Tree → Type 0
NoneFits g ps = (p : Tree) → Contains ps p → ¬ Fits g p

abbrev pub IsFirstFit : Graph → List Tree → Tree → Type 0
IsFirstFit g ps m = (front back : List Tree) × (ps ≡ front ++ m ∷ back) × Fits g m × NoneFits g front

abbrev pub HasNoProgram : Graph → Type 0
HasNoProgram g = (p : Tree) → IsProgram p → ¬ Fits g p

abbrev pub HasParts : Graph → ℕ → Type 0
HasParts g n = (vs : List Vertex) × IsOnce vs × ((v : Vertex) → Contains vs v ↔ (g.vertex v × IsPart v)) × (length vs ≡ n)

abbrev pub IsFound : {X : Type 0} → Graph → List Vertex → Issued → ℕ → AnswerBy X → Type 0
IsFound g rank issued tries (interference cs) = ⊥
IsFound g rank issued tries (printed m) = (ps : List Tree) × AreArrangements g rank issued ps × IsFirstFit g ps m
IsFound g rank issued tries (no_program n) = HasNoProgram g × HasParts g n
IsFound g rank issued tries spent =
    (ps : List Tree) × AreArrangements g rank issued ps × (tries < length ps) × NoneFits g (take tries ps)
    × AreLeavesSpent g rank issued tries

abbrev pub graphs_of : List Tree → List Graph
graphs_of [] = []
graphs_of (t ∷ ts) = graph_of t ∷ graphs_of ts

abbrev pub merged_of_all : Tree → List Tree → Graph
merged_of_all base vs = merged_all (graph_of base) (graphs_of vs)

abbrev pub issued_all : Issued → List Issued → Issued
issued_all base [] = base
issued_all base (i ∷ is) = issued_all (raised_by i base) is

abbrev pub issued_of_all : Tree → List Tree → Issued
issued_of_all base vs = issued_all base.issued (map (λ v. v.issued) vs)

abbrev pub AreSplitOff : Tree → List Tree → List (Vertex × Tag) → Type 0
AreSplitOff base vs rs =
    AreRenamedWithin (merged_of_all base vs) (IsSplitOff (graphs_of vs) (merged_of_all base vs)) (issued_to 0 (issued_of_all base vs)) rs

abbrev pub searched_graph_of : List (Vertex × Tag) → Tree → List Tree → Graph
searched_graph_of rs base vs = split_graph rs (merged_of_all base vs)

abbrev pub IsSearchedRankOf : List (Vertex × Tag) → Tree → List Tree → List Vertex → Type 0
IsSearchedRankOf rs base vs r = (rank : List Vertex) × IsRankOf base vs rank × (r ≡ split_rank rs rank)

abbrev pub searched_issued_of : List (Vertex × Tag) → Tree → List Tree → Issued
searched_issued_of rs base vs = split_issued (length rs) (issued_of_all base vs)

abbrev pub HasSpentLeavesOf : Tree → List Tree → ℕ → Type 0
HasSpentLeavesOf base vs tries =
    (rs : List (Vertex × Tag)) × AreSplitOff base vs rs
    × ((rank : List Vertex) × IsSearchedRankOf rs base vs rank
    × AreLeavesSpent (searched_graph_of rs base vs) rank (searched_issued_of rs base vs) tries)

abbrev pub IsFoundFor : {X : Type 0} → Tree → List Tree → ℕ → AnswerBy X → Type 0
IsFoundFor {X} base vs tries r =
    (rs : List (Vertex × Tag)) × AreSplitOff base vs rs
    × ((rank : List Vertex) × IsSearchedRankOf rs base vs rank
    × IsFound {X = X} (searched_graph_of rs base vs) rank (searched_issued_of rs base vs) tries r)

abbrev pub AreWithoutConflict : {X : Type 0} → (X → ℕ × Vertex × Edge) → Tree → List Tree → Type 0
AreWithoutConflict at base vs = AreConflictsBy at (graph_of base) (graphs_of vs) []

abbrev pub IsAnswerBy : {X : Type 0} → (X → ℕ × Vertex × Edge) → Tree → List Tree → ℕ → AnswerBy X → Type 0
IsAnswerBy {X} at base vs tries (interference cs) = AreConflictsBy at (graph_of base) (graphs_of vs) cs × ¬ (cs ≡ [])
IsAnswerBy {X} at base vs tries (printed m) =
    AreWithoutConflict at base vs × IsFoundFor {X = X} base vs tries (printed m)
IsAnswerBy {X} at base vs tries (no_program n) =
    AreWithoutConflict at base vs × IsFoundFor {X = X} base vs tries (no_program n)
IsAnswerBy {X} at base vs tries spent =
    AreWithoutConflict at base vs × IsFoundFor {X = X} base vs tries spent

abbrev pub merged_of : Tree → Tree → Tree → Graph
merged_of base a b = merged_of_all base (a ∷ b ∷ [])

abbrev pub issued_of : Tree → Tree → Tree → Issued
issued_of base a b = issued_of_all base (a ∷ b ∷ [])

abbrev pub HasSpentLeaves : Tree → Tree → Tree → ℕ → Type 0
HasSpentLeaves base a b tries = HasSpentLeavesOf base (a ∷ b ∷ []) tries

abbrev pub IsWithoutConflict : Tree → Tree → Tree → Type 0
IsWithoutConflict base a b = AreWithoutConflict told_as base (a ∷ b ∷ [])

abbrev pub IsAnswer : Tree → Tree → Tree → ℕ → Answer → Type 0
IsAnswer base a b tries r = IsAnswerBy told_as base (a ∷ b ∷ []) tries r
