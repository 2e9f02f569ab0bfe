use Rattle.hpr_verify.proofs.EdgesApart.{is_link, least_edge, none_apart}
use Rattle.hpr_verify.proofs.difference.edge_apart.Goals as goal

pub edge-requires : goal.edge-requires
edge-requires c =
    is_link c.args.offered.now c.args.merged.now c.vertices-offered.ensures.numbered c.vertices-merged.ensures.numbered c.requires.vertices
    c.in-Some.to c.in-Some.link c.in-Some.holder c.in-Some.ensures.0.0

pub returns-in_ok-edge-in-Some : goal.returns-in_ok-edge-in-Some
returns-in_ok-edge-in-Some c =
    least_edge c.args.offered.now c.args.merged.now c.vertices-offered.ensures.numbered c.vertices-merged.ensures.numbered c.requires.vertices c.requires.order
    c.in-Some.to c.in-Some.link c.in_ok-edge-in-Some.field-0 c.in-Some.holder c.in-Some.ensures c.in_ok-edge-in-Some.ensures

pub returns-in-None : goal.returns-in-None
returns-in-None c =
    none_apart c.args.offered.now c.args.merged.now c.vertices-offered.ensures.numbered c.vertices-merged.ensures.numbered c.requires.vertices c.in-None.ensures
