use Rattle.std.proofs.Common.{◌≡◌, ◌++◌, map}
use Rattle.hpr_merge_many.specs.Conflicts.{conflict_of}
use Rattle.hpr_merge_many.proofs.conflicts.push_conflicts.Given as goal

abbrev pub invariant-loop-point : goal.invariant-loop-point
invariant-loop-point l = l.into.items ≡ l.fn.into.items ++ map (conflict_of l.number) l.yielded
