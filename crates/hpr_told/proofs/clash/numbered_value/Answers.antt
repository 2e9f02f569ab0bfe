use Rattle.std.proofs.Common.{◌∙◌, ap, map, sym}
use Rattle.std.proofs.lemmas.Option.{get_or_from_slice_get}
use Rattle.std.proofs.lemmas.Result.{IfOk-weaker}
use Rattle.hpr_graph.specs.declared.vertex.Vertex.TheVariants.{Entry}
use Rattle.hpr_located.specs.Shown.{located_data}
use Rattle.hpr_located.specs.Sources.{standing_of}
use Rattle.hpr_told.proofs.clash.numbered_value.Goals as goal

pub returns : goal.returns
returns c =
    let at = get_or_from_slice_get c.args.graph.now.vertices c.args.number c.vertex.result.now Entry c.vertex.ensures in
    IfOk-weaker c.vertex_at.result _ _ (λ value is. is ∙ ap (located_data (map standing_of c.args.sources.now)) (sym at)) c.vertex_at.ensures.data
