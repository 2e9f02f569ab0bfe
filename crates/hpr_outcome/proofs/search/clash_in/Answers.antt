use Rattle.std.proofs.Common.{IfOk, List, subst}
use Rattle.hpr_graph.specs.declared.vertex.Vertex.{Vertex}
use Rattle.hpr_outcome.specs.Outcomes.{IsClashTold}
use Rattle.hpr_outcome.proofs.Told.{told_either_way}
use Rattle.hpr_outcome.proofs.search.clash_in.Goals as goal

pub returns : goal.returns
returns c =
    let s = c.args.searched.now in
    let o = c.first_clash.result in
    subst (λ (rank : List Vertex). IfOk o (IsClashTold s.graph rank s.issued)) c.deref.ensures.value
    (told_either_way s.graph c.deref.result.now s.issued o c.first_clash.ensures.clash c.first_clash.ensures.none)
