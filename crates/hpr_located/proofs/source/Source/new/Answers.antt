use Rattle.std.proofs.Common.{List, map, zip, ap, ◌∙◌}
use Rattle.std.specs.BTreeMap.{is_at}
use Rattle.std.specs.Map.{lookup}
use Rattle.hpr_syntax.specs.declared.rows.Row.{Row}
use Rattle.hpr_graph.specs.declared.vertex.Vertex.{Vertex}
use Rattle.hpr_graph.specs.Order.{vertex_cmp}
use Rattle.hpr_located.specs.Sources.{part_vertex}
use Rattle.hpr_located.proofs.source.Source.new.Goals as goal

pub returns : goal.returns
returns c =
    let rows = c.deref.ensures.value ∙ c.in_ok-rows.ensures in
    let place = λ (v : Vertex). c.in_ok-places.ensures v ∙ ap (λ (rs : List Row). lookup (is_at (vertex_cmp v)) (zip (map part_vertex rs) c.args.located.now)) rows in
    (λ i. record { file = c.in_ok-file.ensures.ok i; place = λ v. place v i })
