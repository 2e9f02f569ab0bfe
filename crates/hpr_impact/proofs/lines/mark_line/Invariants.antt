use Rattle.std.proofs.Common.{◌+◌, ◌-◌, ◌↔◌, ℕ, vec_len}
use Rattle.hpr_search.specs.Marks.{IsMarked}
use Rattle.hpr_impact.proofs.lines.mark_line.Given as goal

abbrev pub invariant-loop-marks : goal.invariant-loop-marks
invariant-loop-marks l = (n : ℕ) → IsMarked l.marks.items n ↔ IsMarked l.initial.marks.items n

abbrev pub decreases-loop-marks : goal.decreases-loop-marks
decreases-loop-marks l = l.line + 1 - vec_len l.marks
