use Rattle.std.proofs.Common.{◌<◌, ◌≤◌, length, map, subst}
use Rattle.serde_json.specs.View.{view}
use Rattle.hpr_report.specs.GraphJson.{edge_data}
use Rattle.hpr_json.proofs.Rows.{values_more, values_done}
use Rattle.hpr_json.proofs.graphs.edge_values.Goals as goal

pub loop-to-preserved : goal.loop-to-preserved
loop-to-preserved c =
    let below : c.loop-to.to < length c.args.graph.now.vertices = subst (λ vs. c.loop-to.to < length vs) c.vertices-to-end.ensures.vertices c.loop-to-test.true in
    values_more (edge_data c.args.graph.now.vertices) c.args.graph.now c.loop-to.to (map view c.loop-to.values.items) (map view c.push_row.new.values.items) _ c.vertices-to-end.ensures.numbered below c.loop-to.invariant c.in_ok-push_row.ensures

pub returns : goal.returns
returns c =
    let past : length c.args.graph.now.vertices ≤ c.loop-to.to = subst (λ vs. length vs ≤ c.loop-to.to) c.vertices-to-end.ensures.vertices c.loop-to-test.false in
    values_done (edge_data c.args.graph.now.vertices) c.args.graph.now c.loop-to.to (map view c.loop-to.values.items) _ c.vertices-to-end.ensures.numbered past c.loop-to.invariant
