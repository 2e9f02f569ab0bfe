use Rattle.std.proofs.Common.{take}
use Rattle.hpr_merge.proofs.Spreads.{IsSwept}
use Rattle.hpr_merge.proofs.words.sweep.Given as goal

abbrev pub invariant-loop-step : goal.invariant-loop-step
invariant-loop-step l = IsSwept (take l.step-index l.steps) l.fn.words.items l.words.items l.more
