use Rattle.std.proofs.Common.{refl}
use Rattle.hpr_graph.proofs.Lists.{read_at}
use Rattle.hpr_graph.proofs.Linked.{link_kind}
use Rattle.hpr_graph.proofs.draft.is_link_of.Goals as goal

pub returns : goal.returns
returns c =
    let from = read_at c.args.vertices.now c.args.vertices.now c.args.link.from c.index-vertices-link.result refl c.if-link-vertices.false c.index-vertices-link.is in
    let link = link_kind c.args.vertices.now c.args.to c.args.link c.index-vertices-link.result c.if-to-vertices.false from in
    (λ t. link.0 (c.is_kind_of.ensures.0 t), λ h. c.is_kind_of.ensures.1 (link.1 h))
