use Rattle.std.proofs.lemmas.Result.{IfOk-weaker}
use Rattle.hpr_graph.specs.Graphs.{IsOnce}
use Rattle.hpr_graph.specs.Rank.{IsJoined}
use Rattle.hpr_order.proofs.Ranks.{joined_once}
use Rattle.hpr_order.proofs.ranking.join_program.Goals as goal

pub returns-clause-once : goal.returns-clause-once
returns-clause-once c =
    let list = c.args.list.items in
    let parts = c.in_ok-parts.parts.items in
    IfOk-weaker c.join.result (λ v. IsJoined parts list v.items) (λ v. IsOnce v.items)
    (λ v joined. joined_once parts list v.items joined c.requires)
    c.join.ensures
