use Rattle.std.proofs.lemmas.Result.{IfOk-weaker}
use Rattle.hpr_graph.specs.Numbered.{graph_in}
use Rattle.hpr_verify.specs.Difference.{IsDifference}
use Rattle.hpr_verify.proofs.Differences.{difference_same}
use Rattle.hpr_verify.proofs.difference.difference.Goals as goal

pub returns : goal.returns
returns c =
    let g = graph_in c.args.offered.now in
    let m = graph_in c.args.merged.now in
    let g' = graph_in c.in_ok-offered.offered in
    let m' = graph_in c.in_ok-merged.merged in
    IfOk-weaker c.difference_in_order.result (λ v. IsDifference g' m' v) (λ v. IsDifference g m v)
    (λ v is. difference_same g' g m' m c.in_ok-offered.ensures.same c.in_ok-merged.ensures.same v is) c.difference_in_order.ensures
