use Rattle.std.proofs.Common.{◌≡◌, ◌-◌, ◌<◌, ◌≤◌, ℕ, false, get_or, length}
use Rattle.hpr_forest.proofs.sparse.SparseRow.next.Given as goal

abbrev pub invariant-seek : goal.invariant-seek
invariant-seek l = record {
  from : l.from ≤ l.at;
  unmarked : (d : ℕ) → l.from ≤ d → d < l.at → get_or l.self d false ≡ false;
}

abbrev pub decreases-seek : goal.decreases-seek
decreases-seek l = length l.self - l.at
