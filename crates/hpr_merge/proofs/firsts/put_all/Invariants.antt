use Rattle.std.proofs.Common.{take}
use Rattle.hpr_merge.specs.Firsts.{ArePut}
use Rattle.hpr_merge.proofs.firsts.put_all.Given as goal

abbrev pub invariant-loop-point : goal.invariant-loop-point
invariant-loop-point l = ArePut (take l.point-index l.points) l.link l.fn.firsts.items l.firsts.items l.fn.waiting.items l.waiting.items
