use Rattle.std.proofs.Common.{◌≡◌, None, replicate}
use Rattle.hpr_merge.proofs.added.no_firsts.Given as goal

abbrev pub invariant-loop : goal.invariant-loop
invariant-loop l = l.firsts.items ≡ replicate l.counter None
