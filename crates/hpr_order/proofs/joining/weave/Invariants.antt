use Rattle.std.proofs.Common.{◌≡◌, ◌++◌, ◌-◌, length, reverse, vec_len}
use Rattle.hpr_order.specs.Joining.{runs_of, woven}
use Rattle.hpr_order.proofs.joining.weave.Given as goal

abbrev pub invariant-loop-run : goal.invariant-loop-run
invariant-loop-run l =
    (length l.list.items ≡ length l.runs.items - 1)
    × (woven (runs_of l.initial.runs.items) l.initial.list.items ≡ woven (runs_of l.runs.items) l.list.items ++ reverse l.woven.items)

abbrev pub decreases-loop-run : goal.decreases-loop-run
decreases-loop-run l = vec_len l.runs
