use Rattle.std.proofs.Common.{◌≡◌, List, Some, slice_get, subst}
use Rattle.hpr_graph.specs.declared.vertex.Vertex.{Vertex}
use Rattle.hpr_graph.proofs.Lists.{contains_at}
use Rattle.hpr_affected.proofs.lacking.number_near.Goals as goal

pub returns-then-is_at-clause-found : goal.returns-then-is_at-clause-found
returns-then-is_at-clause-found c =
    subst (λ (vs : List Vertex). slice_get vs c.args.next ≡ Some c.args.vertex.now) c.vertices.ensures.vertices (c.is_at.ensures.0 c.if-is_at.true)

pub returns-then-is_at-clause-stranger : goal.returns-then-is_at-clause-stranger
returns-then-is_at-clause-stranger c =
    let at : slice_get c.args.graph.now.vertices c.args.next ≡ Some c.args.vertex.now =
    subst (λ (vs : List Vertex). slice_get vs c.args.next ≡ Some c.args.vertex.now) c.vertices.ensures.vertices (c.is_at.ensures.0 c.if-is_at.true) in (
      λ none. absurd cc,
      λ no. absurd (no (contains_at c.args.graph.now.vertices c.args.next c.args.vertex.now at)),
    )
