use Rattle.std.proofs.Common.{◌≡◌, ap, length, arith}
use Rattle.hpr_graph.proofs.Lists.{read_at}
use Rattle.hpr_affected.proofs.NumberRows.{numbers_none, numbers_more, numbers_all}
use Rattle.hpr_affected.proofs.lacking.numbers_in.Goals as goal

pub loop-vertex-init : goal.loop-vertex-init
loop-vertex-init c = numbers_none _ _ _ c.in_ok-numbers.ensures.items

pub loop-vertex-preserved : goal.loop-vertex-preserved
loop-vertex-preserved c =
    numbers_more c.args.graph.now c.args.other.now c.loop-vertex.numbers.items _ c.number_near-number.result c.loop-vertex.vertex-index c.vertex-item.result c.loop-vertex.invariant
    (read_at _ _ c.loop-vertex.vertex-index c.vertex-item.result c.vertices-vertex-items.ensures.vertices c.loop-vertex-test.true c.vertex-item.is)
    c.number_near-number.ensures.found c.number_near-number.ensures.stranger.0 c.in_ok-push.ensures.items

pub returns : goal.returns
returns c =
    let all : length c.vertices-vertex-items.result.now ≡ length c.args.graph.now.vertices = ap length c.vertices-vertex-items.ensures.vertices in
    numbers_all _ _ _ c.loop-vertex.vertex-index c.loop-vertex.invariant (omega (arith, all, c.loop-vertex-test.false))
