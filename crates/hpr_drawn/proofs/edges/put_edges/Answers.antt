use Rattle.std.proofs.Common.{◌<◌, ◌≤◌, length, subst}
use Rattle.hpr_drawn.proofs.EdgeRows.{text_more, text_done}
use Rattle.hpr_drawn.proofs.edges.put_edges.Goals as goal

pub loop-to-preserved : goal.loop-to-preserved
loop-to-preserved c =
    let below : c.loop-to.to < length c.args.graph.now.vertices = subst (λ vs. c.loop-to.to < length vs) c.vertices-to-end.ensures.vertices c.loop-to-test.true in
    text_more c.args.left_out c.args.graph.now c.loop-to.to c.loop-to.out.items c.put_row.new.out.items _ c.vertices-to-end.ensures.numbered below c.loop-to.invariant c.in_ok-put_row.ensures

pub returns : goal.returns
returns c =
    let past : length c.args.graph.now.vertices ≤ c.loop-to.to = subst (λ vs. length vs ≤ c.loop-to.to) c.vertices-to-end.ensures.vertices c.loop-to-test.false in
    text_done c.args.left_out c.args.graph.now c.loop-to.to c.loop-to.out.items _ c.vertices-to-end.ensures.numbered past c.loop-to.invariant
