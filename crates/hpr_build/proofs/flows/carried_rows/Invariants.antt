use Rattle.std.proofs.Common.{◌≡◌, vec_len}
use Rattle.hpr_build.specs.Flows.{AreCarries}
use Rattle.hpr_build.proofs.flows.carried_rows.Given as goal

abbrev pub invariant-loop-w : goal.invariant-loop-w
invariant-loop-w l = record {
  count : vec_len l.rows ≡ l.w-index;
  exact : AreCarries l.succ l.name l.from l.w-index l.rows.items;
}
