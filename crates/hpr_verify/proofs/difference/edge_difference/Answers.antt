use Rattle.hpr_graph.specs.Numbered.{HasEdge}
use Rattle.hpr_graph.specs.Order.{edge_cmp}
use Rattle.hpr_verify.proofs.Differences.{alike_when, held_when}
use Rattle.hpr_verify.proofs.EdgesApart.{vertices_alike}
use Rattle.hpr_verify.proofs.difference.edge_difference.Goals as goal

pub returns-in-Some : goal.returns-in-Some
returns-in-Some c = (
  vertices_alike c.args.offered.now.vertices c.args.merged.now.vertices c.requires.vertices,
  held_when edge_cmp (HasEdge c.args.offered.now) (HasEdge c.args.merged.now) c.in_ok-edge.field-0 c.in-Some.edge c.in-Some.holder c.in-Some.is c.in_ok-edge.ensures,
)

pub returns-in-None : goal.returns-in-None
returns-in-None c = (
  vertices_alike c.args.offered.now.vertices c.args.merged.now.vertices c.requires.vertices,
  alike_when edge_cmp (HasEdge c.args.offered.now) (HasEdge c.args.merged.now) c.in_ok-edge.field-0 c.in-None.is c.in_ok-edge.ensures,
)
