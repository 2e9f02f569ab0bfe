-- What the search for a program is given.
--
-- IsSplitFrom m P s     == s is m with new tags for the parts of its graph that have P, which it lists with
--                          these tags; s is m where the serials don't suffice
-- IsSearchedOf base vs s == s is what is searched for a base and its variants: the merged graph, the rank and
--                           the issued numbers, with the parts that are split off under their new tags, and
--                           the list of these
-- IsSearched base a b s == the same of two variants
use Rattle.std.specs.Prelude.{◌≡◌, List, [], ◌∷◌, length}
use Rattle.hpr_syntax.specs.Issued.{issued_to}
use Rattle.hpr_syntax.specs.Tree.{Tree}
use Rattle.hpr_graph.specs.declared.vertex.Vertex.{Vertex}
use Rattle.hpr_graph.specs.Answer.{AreSplitOff, IsSearchedRankOf, searched_graph_of, searched_issued_of}
use Rattle.hpr_graph.specs.Graphs.{Same}
use Rattle.hpr_graph.specs.Numbered.{graph_in}
use Rattle.hpr_graph.specs.Split.{AreRenamedWithin, split_graph, split_issued, split_rank}
use Rattle.hpr_engine.specs.declared.search.Searched.{Searched}

abbrev pub IsSplitFrom : Searched → (Vertex → Type 0) → Searched → Type 0
IsSplitFrom m P s =
    AreRenamedWithin (graph_in m.graph) P (issued_to 0 m.issued) s.renamed.items
    × Same (graph_in s.graph) (split_graph s.renamed.items (graph_in m.graph))
    × (s.rank.items ≡ split_rank s.renamed.items m.rank.items)
    × (s.issued ≡ split_issued (length s.renamed.items) m.issued)

abbrev pub IsSearchedOf : Tree → List Tree → Searched → Type 0
IsSearchedOf base vs s =
    AreSplitOff base vs s.renamed.items
    × Same (graph_in s.graph) (searched_graph_of s.renamed.items base vs)
    × IsSearchedRankOf s.renamed.items base vs s.rank.items
    × (s.issued ≡ searched_issued_of s.renamed.items base vs)

abbrev pub IsSearched : Tree → Tree → Tree → Searched → Type 0
IsSearched base a b s = IsSearchedOf base (a ∷ b ∷ []) s
