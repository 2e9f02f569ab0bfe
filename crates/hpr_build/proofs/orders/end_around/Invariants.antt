use Rattle.std.proofs.Common.{take}
use Rattle.hpr_build.specs.Places.{IsAmong}
use Rattle.hpr_build.proofs.orders.end_around.Given as goal

abbrev pub invariant-loop-span : goal.invariant-loop-span
invariant-loop-span l = ¬ IsAmong (take l.span-index l.spans) l.point
