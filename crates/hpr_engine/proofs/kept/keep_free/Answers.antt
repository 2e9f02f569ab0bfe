use Rattle.hpr_engine.proofs.KeptParts.{kept_all, kept_next}
use Rattle.hpr_engine.proofs.kept.keep_free.Goals as goal

pub loop-part-preserved : goal.loop-part-preserved
loop-part-preserved c =
    kept_next c.args.graph.now c.args.parts.now c.loop-part.part-index c.args.taken.now.keys c.loop-part.taken.keys c.args.keep.now.items c.loop-part.keep.items c.loop-part.invariant _ c.keep_if_free.new.taken.keys
    c.keep_if_free.new.keep.items c.requires.contents c.loop-part-test.true c.part-item.is
    (record {
      marks = c.in_ok-keep_if_free.ensures.marks;
      kept = c.in_ok-keep_if_free.ensures.kept;
      more = c.in_ok-keep_if_free.ensures.taken;
    })

pub returns-clause-kept : goal.returns-clause-kept
returns-clause-kept c =
    (kept_all c.args.graph.now c.args.parts.now c.loop-part.part-index c.args.taken.now.keys c.loop-part.taken.keys c.args.keep.now.items c.loop-part.keep.items c.loop-part.invariant c.loop-part-test.false).kept

pub returns-clause-taken : goal.returns-clause-taken
returns-clause-taken c =
    (kept_all c.args.graph.now c.args.parts.now c.loop-part.part-index c.args.taken.now.keys c.loop-part.taken.keys c.args.keep.now.items c.loop-part.keep.items c.loop-part.invariant c.loop-part-test.false).more
