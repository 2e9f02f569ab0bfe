use Rattle.hpr_merge.proofs.Putting.{put_next}
use Rattle.hpr_merge.proofs.firsts.put_all.Goals as goal

pub loop-point-preserved : goal.loop-point-preserved
loop-point-preserved c =
    put_next c.args.points.now c.loop-point.point-index c.args.link c.args.firsts.now.items c.loop-point.firsts.items c.put_one.new.firsts.items
    c.args.waiting.now.items c.loop-point.waiting.items c.put_one.new.waiting.items c.loop-point-test.true
    c.loop-point.invariant c.in_ok-put_one.ensures
