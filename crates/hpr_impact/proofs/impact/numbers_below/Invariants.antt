use Rattle.std.proofs.Common.{◌<◌, ℕ, All, Contains}
use Rattle.hpr_impact.proofs.impact.numbers_below.Given as goal

abbrev pub invariant-loop-number : goal.invariant-loop-number
invariant-loop-number l = record {
  within : All (λ n. n < l.count) l.numbers.items;
  all : (n : ℕ) → n < l.number → Contains l.numbers.items n;
}
