use Rattle.std.proofs.Common.{ap, get_or}
use Rattle.std.proofs.lemmas.List.{take_all}
use Rattle.std.proofs.lemmas.List.Elements.{Contains-get_or}
use Rattle.hpr_graph.specs.declared.conflict.ManyConflict.{ManyConflict}
use Rattle.hpr_interference.proofs.Listed.{points_more}
use Rattle.hpr_interference.proofs.groups.points_of.Goals as goal

pub conflict_at-requires : goal.conflict_at-requires
conflict_at-requires c = c.requires (get_or c.args.row.now c.loop-at.at-index 0) (Contains-get_or c.args.row.now c.loop-at.at-index 0 c.loop-at-test.true)

pub loop-at-preserved : goal.loop-at-preserved
loop-at-preserved c = λ d.
    points_more c.args.conflicts.now d c.args.row.now c.loop-at.at-index c.loop-at.points.items c.push.new.self.items _
    c.loop-at-test.true c.in_ok-push.ensures.items
    (ap (λ (x : ManyConflict). x.point) (c.conflict_at.ensures d)) (c.loop-at.invariant d)

pub returns : goal.returns
returns c = λ d. rw (take_all c.loop-at.at-index c.args.row.now c.loop-at-test.false) at (c.loop-at.invariant d)
