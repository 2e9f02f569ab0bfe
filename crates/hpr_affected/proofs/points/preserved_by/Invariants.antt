use Rattle.std.proofs.Common.{take}
use Rattle.hpr_affected.specs.Shared.{MarksUnshared, others_of}
use Rattle.hpr_affected.proofs.points.preserved_by.Given as goal

abbrev pub invariant-loop-comparison : goal.invariant-loop-comparison
invariant-loop-comparison l = MarksUnshared l.base (others_of (take l.comparison-index l.comparisons)) l.unshared.items
