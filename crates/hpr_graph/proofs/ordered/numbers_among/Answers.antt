use Rattle.std.proofs.Common.{refl}
use Rattle.hpr_graph.proofs.Lists.{read_at, contains_at}
use Rattle.hpr_graph.proofs.Reordered.{found_more}
use Rattle.hpr_graph.proofs.ordered.numbers_among.Goals as goal

pub loop-vertex-preserved : goal.loop-vertex-preserved
loop-vertex-preserved c =
    let at = read_at c.args.vertices.now c.args.vertices.now c.loop-vertex.vertex-index c.vertex-item.result refl c.loop-vertex-test.true c.vertex-item.is in
    found_more c.args.vertices.now c.args.ascending.now c.loop-vertex.numbers.items c.push.new.self.items c.loop-vertex.vertex-index c.number_among.result c.vertex-item.result
    c.loop-vertex.invariant at c.number_among.ensures.found
    (c.number_among.ensures.there (c.requires.all c.vertex-item.result (contains_at c.args.vertices.now c.loop-vertex.vertex-index c.vertex-item.result at)))
    c.in_ok-push.ensures.items
