use Rattle.std.proofs.Common.{◌+◌, length}
use Rattle.hpr_search.specs.Rows.{numbers_at}
use Rattle.hpr_merge.specs.Firsts.{none_count}
use Rattle.hpr_merge.proofs.Putting.{IsSpreading}
use Rattle.hpr_merge.proofs.firsts.put_from.Given as goal

abbrev pub invariant-loop-point : goal.invariant-loop-point
invariant-loop-point l = IsSpreading (numbers_at l.rows) l.link l.fn.firsts.items l.firsts.items l.waiting.items

abbrev pub decreases-loop-point : goal.decreases-loop-point
decreases-loop-point l = none_count l.firsts.items + length l.waiting.items
