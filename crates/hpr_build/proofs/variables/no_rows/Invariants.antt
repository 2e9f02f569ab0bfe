use Rattle.std.proofs.Common.{◌≡◌, ℕ, [], vec_len}
use Rattle.hpr_build.specs.Variables.{points_at}
use Rattle.hpr_build.proofs.variables.no_rows.Given as goal

abbrev pub invariant-loop : goal.invariant-loop
invariant-loop l = record {
  len : vec_len l.rows ≡ l.counter;
  none : (i : ℕ) → points_at l.rows.items i ≡ [];
}
