use Rattle.hpr_order.specs.Joining.{runs_of}
use Rattle.hpr_order.proofs.Joins.{all_left, taken_more}
use Rattle.hpr_order.proofs.joining.runs_in.Goals as goal

pub loop-part-init : goal.loop-part-init
loop-part-init c =
    all_left c.args.list.now.keys c.args.parts.items (runs_of c.in_ok-runs.runs.items) c.len-at.result
    c.len-at.ensures.len c.in_ok-runs.ensures

pub loop-part-preserved : goal.loop-part-preserved
loop-part-preserved c =
    taken_more c.args.list.now.keys c.args.parts.items c.loop-part.parts.items c.pop.new.self.items c.in-Some.part
    (runs_of c.loop-part.runs.items) (runs_of c.take.new.runs.items) c.loop-part.at c.in_ok-at.at
    c.requires c.in-Some.ensures.items c.loop-part.invariant c.in_ok-at.ensures
