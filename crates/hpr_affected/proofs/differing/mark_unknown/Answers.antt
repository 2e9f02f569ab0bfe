use Rattle.std.proofs.Common.{refl}
use Rattle.hpr_affected.specs.Lacking.{IsKnown}
use Rattle.hpr_affected.proofs.MarkRows.{unknown_none, unknown_more, unknown_all}
use Rattle.hpr_affected.proofs.differing.mark_unknown.Goals as goal

pub loop-link-init : goal.loop-link-init
loop-link-init c = unknown_none (IsKnown c.args.numbers.now c.args.known.now) _ _ c.args.links.now c.args.to refl

pub loop-link-preserved : goal.loop-link-preserved
loop-link-preserved c =
    unknown_more (IsKnown c.args.numbers.now c.args.known.now) c.args.marks.now.items c.loop-link.marks.items c.mark_unless.new.marks.items c.args.links.now c.loop-link.link-index _ c.args.to c.counts_at.result c.is_known-is_there.result c.loop-link-test.true
    c.counts_at.ensures c.is_known-is_there.ensures c.loop-link.invariant c.mark_unless.ensures.count c.mark_unless.ensures.exact

pub returns-clause-exact : goal.returns-clause-exact
returns-clause-exact c = (unknown_all (IsKnown c.args.numbers.now c.args.known.now) c.args.marks.now.items c.loop-link.marks.items c.args.links.now c.loop-link.link-index c.args.to c.loop-link-test.false c.loop-link.invariant).exact
