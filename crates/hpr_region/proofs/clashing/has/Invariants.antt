use Rattle.std.proofs.Common.{◌≡◌, drop}
use Rattle.hpr_forest.specs.Marks.{is_in}
use Rattle.hpr_region.proofs.clashing.has.Given as goal

abbrev pub invariant-loop-one : goal.invariant-loop-one
invariant-loop-one l = is_in l.numbers l.number ≡ is_in (drop l.one-index l.numbers) l.number
