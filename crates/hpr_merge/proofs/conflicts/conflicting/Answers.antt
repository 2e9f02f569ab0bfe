use Rattle.std.proofs.Common.{ap, length, arith}
use Rattle.std.proofs.lemmas.List.{nil_from_length}
use Rattle.hpr_affected.proofs.PointLists.{before_none, before_more, before_all}
use Rattle.hpr_merge.proofs.ConflictPoints.{conflict_test, none_of_none}
use Rattle.hpr_merge.proofs.conflicts.conflicting.Goals as goal

pub loop-at-init : goal.loop-at-init
loop-at-init c = before_none _ _ _ c.new-kept.ensures.items

pub loop-at-preserved : goal.loop-at-preserved
loop-at-preserved c =
    before_more _ _ c.loop-at.kept.items _ c.loop-at.at c.is_conflicting-test.result c.loop-at.invariant
    (conflict_test c.args.merged.now c.args.variant.now c.args.points.now c.in_ok-comparison.comparison c.in_ok-comparison.ensures.graph c.in_ok-comparison.ensures.other
    c.vertices-at-end.ensures.numbered.once c.loop-at.at c.is_conflicting-test.result c.is_conflicting-test.ensures)
    c.in_ok-push_if.ensures

pub returns : goal.returns
returns c = before_all _ _ _ c.loop-at.at c.loop-at.invariant (omega (arith, c.loop-at-test.false, c.loop-at.auto.at-end, ap length c.vertices-at-end.ensures.vertices))

pub returns-then-is_empty : goal.returns-then-is_empty
returns-then-is_empty c =
    none_of_none c.args.merged.now c.args.variant.now c.args.points.now c.new.result.items (nil_from_length c.args.points.now (grind (arith, c.is_empty.ensures, c.if-is_empty.true))) c.new.ensures.items
