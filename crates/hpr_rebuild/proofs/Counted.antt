-- An arrangement has as many parts as the graph.
use Rattle.std.proofs.Common.{Contains, sym, subst}
use Rattle.hpr_syntax.specs.Body.{part_count}
use Rattle.hpr_syntax.specs.Issued.{Issued}
use Rattle.hpr_syntax.specs.Tree.{Tree}
use Rattle.hpr_graph.specs.Graphs.{Graph}
use Rattle.hpr_graph.specs.Arrangements.{IsArrangement}
use Rattle.hpr_graph.specs.Answer.{HasParts}
use Rattle.hpr_graph.specs.Rank.{parts_of}
use Rattle.hpr_order.proofs.Ranks.{parts_once}
use Rattle.hpr_rebuild.proofs.Parts.{parts_count}
use Rattle.hpr_region.proofs.PartOrder.{part_says, says_part}

pub parts_of_arrangement : (g : Graph) (issued : Issued) (p : Tree) → IsArrangement g issued p → HasParts g (part_count p.body)
parts_of_arrangement g issued p is = (
  parts_of p,
  parts_once p is.program,
  λ v. (
    λ h.
        (let (t, c, e, says) = part_says p v h in
        (subst g.vertex (sym e) ((is.parts t c).0 says), (t, c, e))),
    λ (there, (t, c, e)). subst (Contains (parts_of p)) (sym e) (says_part p t c ((is.parts t c).1 (subst g.vertex e there))),
  ),
  parts_count p,
)
