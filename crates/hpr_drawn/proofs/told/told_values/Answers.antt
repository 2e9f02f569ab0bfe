use Rattle.std.proofs.Common.{◌∷◌, [], map, ap, subst, ◌∙◌}
use Rattle.std.proofs.lemmas.List.{map-append}
use Rattle.serde_json.specs.View.{view}
use Rattle.hpr_graph.specs.declared.vertex.Vertex.{Vertex}
use Rattle.hpr_located.specs.Sources.{standing_of}
use Rattle.hpr_drawn.specs.Told.{IsTold}
use Rattle.hpr_drawn.proofs.Objects.{told_more}
use Rattle.hpr_drawn.proofs.told.told_values.Goals as goal

pub loop-vertex-preserved : goal.loop-vertex-preserved
loop-vertex-preserved c =
    let ss = map standing_of c.args.sources.now in
    let value = c.in_ok-told_value.field-0 in
    let one = subst (λ (v : Vertex). IsTold ss v (view value)) c.vertex-item.is c.in_ok-told_value.ensures in
    let more = ap (map view) c.in_ok-push.ensures.items ∙ map-append view c.loop-vertex.values.items (value ∷ []) in
    let before = map view c.loop-vertex.values.items in
    let after = map view c.push.new.self.items in
    let at = c.loop-vertex.vertex-index in
    told_more ss c.args.vertices.now at c.vertex-item.result before after (view value) c.loop-vertex-test.true c.loop-vertex.invariant one more
