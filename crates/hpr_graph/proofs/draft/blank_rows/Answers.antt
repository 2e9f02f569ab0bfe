use Rattle.hpr_graph.proofs.Blank.{one_more}
use Rattle.hpr_graph.proofs.draft.blank_rows.Goals as goal

pub loop-preserved : goal.loop-preserved
loop-preserved c = one_more c.loop.rows.items c.push.new.self.items c.new.result c.loop.counter c.new.ensures.items c.in_ok-push.ensures.items c.loop.invariant
