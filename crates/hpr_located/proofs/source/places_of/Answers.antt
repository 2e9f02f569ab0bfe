use Rattle.std.proofs.Common.{List, ap, refl, sym, ◌∙◌, arith}
use Rattle.std.specs.BTreeMap.{is_at}
use Rattle.std.specs.Map.{lookup}
use Rattle.hpr_graph.specs.declared.vertex.Vertex.{Vertex}
use Rattle.hpr_graph.specs.Order.{vertex_cmp}
use Rattle.hpr_located.specs.declared.located.Located.{Located}
use Rattle.hpr_located.specs.Sources.{part_vertex}
use Rattle.hpr_located.proofs.Standing.{pairs_here, no_pairs, one_more, shorter}
use Rattle.hpr_located.proofs.source.places_of.Goals as goal

pub loop-left-init : goal.loop-left-init
loop-left-init c =
    let none = no_pairs part_vertex c.args.rows.now c.args.located.now c.min-left.result (shorter _ _ c.min-left.result c.min-left.ensures) in
    record {
      rows = omega (arith, c.min-left.ensures);
      located = omega (arith, c.min-left.ensures);
      places = λ v. ap (λ (es : List (Vertex × Located)). lookup (is_at (vertex_cmp v)) es) (c.new-places.ensures.empty ∙ sym none);
    }

pub loop-left-preserved : goal.loop-left-preserved
loop-left-preserved c =
    let h = c.loop-left.invariant in
    let here = pairs_here part_vertex c.args.rows.now c.args.located.now c.loop-left.left c.index-rows-left.result _ _ (omega (arith, c.loop-left-test.true)) h.rows h.located c.index-rows-left.is refl in
    record {
      rows = omega (arith, h.rows);
      located = omega (arith, h.located);
      places = λ v. one_more (is_at (vertex_cmp v)) (part_vertex c.index-rows-left.result) _ c.loop-left.places.entries c.put_part.new.places.entries _ _ (c.in_ok-put_part.ensures v) (h.places v) here;
    }
