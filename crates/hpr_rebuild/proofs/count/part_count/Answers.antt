use Rattle.std.proofs.Common.{List, length, filter, ap, ◌∙◌}
use Rattle.hpr_graph.specs.declared.vertex.Vertex.{Vertex}
use Rattle.hpr_rebuild.specs.Parts.{is_part}
use Rattle.hpr_rebuild.proofs.Amongst.{has_parts}
use Rattle.hpr_rebuild.proofs.count.part_count.Goals as goal

pub returns : goal.returns
returns c =
    has_parts c.args.graph.now c.parts_among.result c.vertices.ensures.numbered.once
    (c.parts_among.ensures ∙ ap (λ (vs : List Vertex). length (filter is_part vs)) c.vertices.ensures.vertices)
