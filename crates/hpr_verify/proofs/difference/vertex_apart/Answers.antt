use Rattle.std.proofs.Common.{Contains, sym, subst}
use Rattle.hpr_graph.specs.declared.vertex.Vertex.{Vertex}
use Rattle.hpr_graph.specs.Order.{vertex_cmp}
use Rattle.hpr_verify.specs.Difference.{IsLeastHeld}
use Rattle.hpr_verify.proofs.Rows.{found_at}
use Rattle.hpr_verify.proofs.difference.vertex_apart.Goals as goal

pub returns : goal.returns
returns c =
    let xs = c.args.offered.now in
    let ys = c.args.merged.now in
    let v = c.index-row-at.result in
    subst (λ (w : Vertex). IsLeastHeld vertex_cmp (Contains xs) (Contains ys) w c.in-Some.holder) (sym c.in_ok-copy.ensures)
    (found_at vertex_cmp xs ys c.row_by-row.result.now c.in-Some.at c.in-Some.holder v c.in-Some.ensures c.row_by-row.ensures c.index-row-at.is)
