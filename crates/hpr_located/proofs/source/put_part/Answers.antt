use Rattle.std.proofs.Common.{◌∷◌, ap, ◌∙◌}
use Rattle.std.specs.BTreeMap.{is_at}
use Rattle.std.specs.Map.{lookup}
use Rattle.hpr_graph.specs.declared.vertex.Vertex.TheVariants.{Part}
use Rattle.hpr_graph.specs.Order.{vertex_cmp}
use Rattle.hpr_syntax.specs.declared.rows.Content.{Content}
use Rattle.hpr_located.proofs.Standing.{put_first}
use Rattle.hpr_located.proofs.source.put_part.Goals as goal

pub returns : goal.returns
returns c v =
    let key = Part c.args.row.now.tag c.in_ok-copy.field-0 in
    put_first v key c.args.located c.args.places.now.entries c.insert.new.self.entries (c.in_ok-insert.ensures.updates.0 v)
    ∙ ap (λ (said : Content). lookup (is_at (vertex_cmp v)) ((Part c.args.row.now.tag said, c.args.located) ∷ c.args.places.now.entries)) c.in_ok-copy.ensures
