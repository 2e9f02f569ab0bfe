use Rattle.std.proofs.Common.{length, ap, sym, arith}
use Rattle.hpr_graph.specs.Numbered.{row_items}
use Rattle.hpr_order.proofs.Rows.{controlled_none, controlled_more, controlled_whole, from_within}
use Rattle.hpr_order.proofs.reached.controlled_rows.Goals as goal

pub loop-at-init : goal.loop-at-init
loop-at-init c =
    controlled_none c.args.graph.now _ (omega (arith, c.in_ok-rows.ensures.count, ap length c.vertices-count.ensures.vertices)) c.in_ok-rows.ensures.blank

pub push_controlled-requires-clause-links : goal.push_controlled-requires-clause-links
push_controlled-requires-clause-links c = λ l h.
    omega (arith, from_within c.args.graph.now c.loop-at.at l (c.edges_into.ensures.links l h), c.loop-at.invariant.count)

pub push_controlled-requires-clause-number : goal.push_controlled-requires-clause-number
push_controlled-requires-clause-number c = omega (arith, c.loop-at-test.true, ap length c.vertices-count.ensures.vertices, c.loop-at.invariant.count)

pub loop-at-preserved : goal.loop-at-preserved
loop-at-preserved c =
    controlled_more c.args.graph.now _ _ c.loop-at.at c.edges_into.result.now (sym (ap row_items c.edges_into.ensures.row)) c.loop-at.invariant c.in_ok-push_controlled.ensures.count
    c.in_ok-push_controlled.ensures.rows

pub returns-clause-rows : goal.returns-clause-rows
returns-clause-rows c =
    controlled_whole c.args.graph.now c.vertices-count.ensures.numbered c.loop-at.rows c.loop-at.at
    (omega (arith, c.loop-at-test.false, ap length c.vertices-count.ensures.vertices)) c.loop-at.invariant
