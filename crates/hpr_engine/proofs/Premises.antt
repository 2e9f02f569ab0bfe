-- What the search for a program is given: the rank has the parts, and their serials were issued.
use Rattle.std.proofs.Common.{inl, inr, List, [], ◌∷◌, Contains}
use Rattle.std.specs.List.{AllByRecursion}
use Rattle.hpr_terms.proofs.Facts.{in_here, in_later}
use Rattle.hpr_syntax.specs.Shape.{IsProgram}
use Rattle.hpr_syntax.specs.Tree.{Tree}
use Rattle.hpr_syntax.proofs.IssuedTags.{serial_of}
use Rattle.hpr_graph.specs.declared.vertex.Vertex.{Vertex}
use Rattle.hpr_graph.specs.declared.vertex.Vertex.TheVariants.{Part}
use Rattle.hpr_graph.specs.Graphs.{Graph, Same}
use Rattle.hpr_graph.specs.Points.{changed}
use Rattle.hpr_graph.specs.ProgramGraph.{graph_of}
use Rattle.hpr_graph.specs.Rank.{IsRankOf}
use Rattle.hpr_graph.specs.Answer.{graphs_of, merged_of_all, issued_of_all}
use Rattle.hpr_order.specs.Arranging.{IsRanking, AreIssued}
use Rattle.hpr_order.proofs.Ranks.{rank_has, rank_once}
use Rattle.hpr_syntax.specs.Proper.{IsProperIssued}
use Rattle.hpr_region.proofs.PartOrder.{says_part}
use Rattle.hpr_engine.proofs.Raised.{with_issued, program_raised}

-- each vertex of what variants changed is one of a variant's
pub of_variant : (base : Graph) (vs : List Tree) (v : Vertex) → (changed base (graphs_of vs)).vertex v → (p : Tree) × Contains vs p × (graph_of p).vertex v
of_variant base [] v h = absurd h
of_variant base (p ∷ []) v h = (p, in_here p [], h.0)
of_variant base (p ∷ q ∷ vs) v (inl h) = (p, in_here p (q ∷ vs), h.0)
of_variant base (p ∷ q ∷ vs) v (inr h) = let (r, there, has) = of_variant base (q ∷ vs) v h in (r, in_later p r (q ∷ vs) there, has)

module _ (base : Tree) (vs : List Tree) where
  -- each vertex of the merged graph is one of base's or of a variant's
  of_program : (v : Vertex) → (merged_of_all base vs).vertex v → (p : Tree) × Contains (base ∷ vs) p × (graph_of p).vertex v
  of_program v (inl h) = let (p, there, has) = of_variant (graph_of base) vs v h in (p, in_later base p vs there, has)
  of_program v (inr h) = (base, in_here base vs, h.0)

  pub ranking : (r : List Vertex) → IsRankOf base vs r → AllByRecursion IsProgram vs → IsRanking (merged_of_all base vs) r
  ranking r is all = record {
    all = λ t c h. (let (p, there, says) = of_program (Part t c) h in (rank_has base vs r is (Part t c)).1 (p, there, says_part p t c says));
    once = rank_once base vs r is all;
  }

  module _ (is : IsProgram base) (all : AllByRecursion IsProgram vs) where
    pub proper_issued : IsProperIssued (issued_of_all base vs)
    proper_issued = let raised = program_raised base vs base is all (in_here base vs) in (raised.proper.ascending, raised.proper.numbers)

    pub parts_issued : AreIssued (merged_of_all base vs) (issued_of_all base vs)
    parts_issued t c h =
        let (p, there, says) = of_program (Part t c) h in
        serial_of (with_issued (issued_of_all base vs) p) (program_raised base vs p is all there) t c says

-- the same graph has the same ranking
pub ranking_same : (g h : Graph) → Same g h → (r : List Vertex) → IsRanking h r → IsRanking g r
ranking_same g h same r is = record { all = λ t c there. is.all t c ((same.0 (Part t c)).0 there); once = is.once }
