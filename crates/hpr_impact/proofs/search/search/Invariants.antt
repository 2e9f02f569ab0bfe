use Rattle.std.proofs.Common.{◌-◌, length}
use Rattle.hpr_search.specs.Rows.{numbers_at}
use Rattle.hpr_impact.proofs.Trails.{Trailing}
use Rattle.hpr_impact.proofs.search.search.Given as goal

abbrev pub invariant-loop-at : goal.invariant-loop-at
invariant-loop-at l = Trailing (numbers_at l.rows) l.starts (length l.rows) l.at l.marks.items l.visits.items

abbrev pub decreases-loop-at : goal.decreases-loop-at
decreases-loop-at l = length l.rows - l.at
