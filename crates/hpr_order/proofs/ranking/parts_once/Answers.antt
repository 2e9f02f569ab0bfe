use Rattle.std.proofs.Common.{◌≡◌, List, sym, subst}
use Rattle.std.proofs.lemmas.Result.{IfOk-weaker}
use Rattle.hpr_graph.specs.declared.vertex.Vertex.{Vertex}
use Rattle.hpr_graph.specs.Graphs.{IsOnce}
use Rattle.hpr_graph.specs.Rank.{parts_of}
use Rattle.hpr_order.proofs.Ranks.{parts_once}
use Rattle.hpr_order.proofs.ranking.parts_once.Goals as goal

pub returns-clause-once : goal.returns-clause-once
returns-clause-once c =
    let tree = c.args.program.now in
    IfOk-weaker c.parts.result (λ v. v.items ≡ parts_of tree) (λ v. IsOnce v.items)
    (λ v is. subst (λ (l : List Vertex). IsOnce l) (sym is) (parts_once tree c.body-body.ensures.program))
    c.parts.ensures
