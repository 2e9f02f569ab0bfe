use Rattle.std.proofs.Common.{arith}
use Rattle.hpr_graph.specs.Numbered.{IsOneOf, graph_in}
use Rattle.hpr_merge.proofs.ConflictLists.{conflicts_none, conflicts_more, conflicts_all, edge_of_pair}
use Rattle.hpr_merge.proofs.conflicts.conflicts_in.Goals as goal

pub loop-at-init : goal.loop-at-init
loop-at-init c = conflicts_none _ _ _ _ _ c.new-conflicts.ensures.items

pub loop-at-preserved : goal.loop-at-preserved
loop-at-preserved c =
    conflicts_more (graph_in c.args.wide.now) (graph_in c.args.beside.now.own) (IsOneOf c.args.wide.now c.args.numbers.now) c.args.wide.now.vertices c.loop-at.at c.vertex-vertex.result.now c.in_ok-edge.edge c.loop-at.conflicts.items _ c.requires.order c.vertex-vertex.ensures
    (edge_of_pair c.args.beside.now.merged c.args.wide.now c.args.beside.now.own c.args.numbers.now c.loop-at.at c.in_ok-edge.edge c.requires.wide c.in_ok-edge.ensures c.vertex-vertex.result.now c.vertex-vertex.ensures)
    c.loop-at.invariant c.in_ok-push_conflict.ensures

pub returns : goal.returns
returns c = conflicts_all _ _ _ _ c.loop-at.at _ (omega (arith, c.loop-at-test.false, c.loop-at.auto.at-end, c.vertex_count-at-end.ensures)) c.loop-at.invariant
