use Rattle.std.proofs.Common.{◌≡◌, ◌+◌, get_or, vec_len}
use Rattle.hpr_build.specs.Flows.{AreCuts}
use Rattle.hpr_build.proofs.flows.cut_rows.Given as goal

abbrev pub invariant-loop-i : goal.invariant-loop-i
invariant-loop-i l = record {
  count : vec_len l.places ≡ l.i + 1;
  last : vec_len l.rows ≡ get_or l.places.items l.i 0 + 1;
  exact : AreCuts l.succ l.name l.from (l.i + 1) l.rows.items l.places.items;
}
