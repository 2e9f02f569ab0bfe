use Rattle.std.proofs.Common.{take}
use Rattle.hpr_affected.specs.Differing.{CountsWithout}
use Rattle.hpr_affected.specs.Lacking.{IsKnown}
use Rattle.hpr_affected.proofs.MarkRows.{AreMarked}
use Rattle.hpr_affected.proofs.differing.mark_unknown.Given as goal

abbrev pub invariant-loop-link : goal.invariant-loop-link
invariant-loop-link l = AreMarked l.initial.marks.items l.marks.items (CountsWithout (IsKnown l.numbers l.known) (take l.link-index l.links) l.to)
