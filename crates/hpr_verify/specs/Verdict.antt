-- The judgement on a merged program that was made elsewhere. Horwitz, Prins and Reps 1989 have no such thing.
--
-- IsJudged base a b offered v  == v tells how the graph of the offered program differs from what is searched:
--                                 the merged graph, with the parts that are split off under their new tags
-- HasSearchedGraph base a b m  == there is no conflict, and the graph of m is what is searched
-- IsVerdict base a b offered v == v is the first conflict, where there is one; else it tells how the offered
--                                 program's graph differs
use Rattle.std.specs.Prelude.{List, [], ◌∷◌}
use Rattle.hpr_terms.specs.declared.tag.Tag.{Tag}
use Rattle.hpr_syntax.specs.Tree.{Tree}
use Rattle.hpr_graph.specs.declared.conflict.Conflict.{Conflict}
use Rattle.hpr_graph.specs.declared.vertex.Vertex.{Vertex}
use Rattle.hpr_graph.specs.Answer.{AreSplitOff, IsWithoutConflict, searched_graph_of}
use Rattle.hpr_graph.specs.Conflicts.{AreConflicts}
use Rattle.hpr_graph.specs.Fits.{Fits}
use Rattle.hpr_graph.specs.ProgramGraph.{graph_of}
use Rattle.hpr_verify.specs.declared.verdict.Verdict.{Verdict}
use Rattle.hpr_verify.specs.declared.verdict.Verdict.TheVariants as verdict
use Rattle.hpr_verify.specs.Difference.{IsDifference}

abbrev pub IsJudged : Tree → Tree → Tree → Tree → Verdict → Type 0
IsJudged base a b offered v =
    (rs : List (Vertex × Tag)) × AreSplitOff base (a ∷ b ∷ []) rs
    × IsDifference (graph_of offered) (searched_graph_of rs base (a ∷ b ∷ [])) v

abbrev pub HasSearchedGraph : Tree → Tree → Tree → Tree → Type 0
HasSearchedGraph base a b m =
    IsWithoutConflict base a b
    × ((rs : List (Vertex × Tag)) × AreSplitOff base (a ∷ b ∷ []) rs × Fits (searched_graph_of rs base (a ∷ b ∷ [])) m)

abbrev pub IsVerdict : Tree → Tree → Tree → Tree → Verdict → Type 0
IsVerdict base a b offered (verdict.Conflict c) = (cs : List Conflict) × AreConflicts (graph_of base) (graph_of a) (graph_of b) (c ∷ cs)
IsVerdict base a b offered verdict.Same = IsWithoutConflict base a b × IsJudged base a b offered verdict.Same
IsVerdict base a b offered (verdict.Vertex v h) = IsWithoutConflict base a b × IsJudged base a b offered (verdict.Vertex v h)
IsVerdict base a b offered (verdict.Edge e h) = IsWithoutConflict base a b × IsJudged base a b offered (verdict.Edge e h)
