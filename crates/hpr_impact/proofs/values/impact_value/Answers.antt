use Rattle.std.proofs.Common.{List, map, ap, ◌∙◌}
use Rattle.serde_json.specs.Written.{has_float}
use Rattle.hpr_graph.specs.declared.vertex.Vertex.{Vertex}
use Rattle.hpr_located.specs.Shown.{located_data}
use Rattle.hpr_located.specs.Sources.{standing_of}
use Rattle.hpr_impact.specs.Shown.{listed_data}
use Rattle.hpr_impact.proofs.Whole.{vertices_whole}
use Rattle.hpr_impact.proofs.values.impact_value.Goals as goal

pub returns-clause-data : goal.returns-clause-data
returns-clause-data c =
    let ss = map standing_of c.args.sources.now in
    (c.in_ok-reached.reached.vertices, c.in_ok-reached.ensures, c.in_ok-value.ensures ∙ ap listed_data (c.in_ok-values.ensures ∙ ap (λ (vs : List Vertex). map (located_data ss) vs) c.vertices.ensures.vertices))

pub returns-clause-whole : goal.returns-clause-whole
returns-clause-whole c = ap has_float (c.in_ok-value.ensures ∙ ap listed_data c.in_ok-values.ensures) ∙ vertices_whole (map standing_of c.args.sources.now) c.vertices.result.now
