use Rattle.std.proofs.Common.{ℕ, ◌<◌, get_or}
use Rattle.hpr_syntax.specs.Proper.{IsProperPair}
use Rattle.hpr_syntax.proofs.proper.read_pairs.Given as goal

abbrev pub invariant-loop-row : goal.invariant-loop-row
invariant-loop-row l = (k : ℕ) → k < l.row-index → IsProperPair (get_or l.rows k (0, 0))
