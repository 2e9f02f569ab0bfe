use Rattle.std.proofs.Common.{◌≡◌, [], replicate}
use Rattle.hpr_search.specs.Rows.{numbers_of}
use Rattle.hpr_conflicts.proofs.groups.blank_rows.Given as goal

abbrev pub invariant-loop : goal.invariant-loop
invariant-loop l = numbers_of l.rows.items ≡ replicate l.counter []
