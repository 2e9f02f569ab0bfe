use Rattle.std.proofs.Common.{length, ap, sym, arith}
use Rattle.hpr_graph.specs.Numbered.{row_items}
use Rattle.hpr_slice.proofs.TargetRows.{targets_none, targets_more, targets_whole, from_within}
use Rattle.hpr_slice.proofs.targets.targets_of.Goals as goal

pub loop-to-init : goal.loop-to-init
loop-to-init c =
    targets_none c.args.graph.now _ (omega (arith, c.in_ok-rows.ensures.count, ap length c.vertices-count.ensures.vertices)) c.in_ok-rows.ensures.blank

pub push_target-requires-clause-links : goal.push_target-requires-clause-links
push_target-requires-clause-links c = λ l h.
    omega (arith, from_within c.args.graph.now c.loop-to.to l (c.edges_into.ensures.links l h), c.loop-to.invariant.count)

pub push_target-requires-clause-number : goal.push_target-requires-clause-number
push_target-requires-clause-number c = omega (arith, c.loop-to-test.true, ap length c.vertices-count.ensures.vertices, c.loop-to.invariant.count)

pub loop-to-preserved : goal.loop-to-preserved
loop-to-preserved c =
    targets_more c.args.graph.now _ _ c.loop-to.to c.edges_into.result.now (sym (ap row_items c.edges_into.ensures.row)) c.loop-to.invariant c.in_ok-push_target.ensures.count
    c.in_ok-push_target.ensures.rows

pub returns-clause-rows : goal.returns-clause-rows
returns-clause-rows c =
    targets_whole c.args.graph.now c.vertices-count.ensures.numbered c.loop-to.rows c.loop-to.to
    (omega (arith, c.loop-to-test.false, ap length c.vertices-count.ensures.vertices)) c.loop-to.invariant
