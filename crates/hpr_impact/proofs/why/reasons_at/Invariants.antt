use Rattle.hpr_impact.proofs.Made.{AreMadeTo}
use Rattle.hpr_impact.proofs.why.reasons_at.Given as goal

abbrev pub invariant-loop-point : goal.invariant-loop-point
invariant-loop-point l = AreMadeTo l.graph l.points l.table l.point-index l.reasons.items
