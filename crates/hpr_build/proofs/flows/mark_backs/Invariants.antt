use Rattle.std.proofs.Common.{◌≡◌, vec_len}
use Rattle.hpr_build.proofs.Rounds.{Backs}
use Rattle.hpr_build.proofs.flows.mark_backs.Given as goal

abbrev pub invariant-loop-step : goal.invariant-loop-step
invariant-loop-step l = record {
  len : vec_len l.round ≡ vec_len l.fn.round;
  marks : Backs l.fn.round.items l.steps l.step-index l.round.items;
}
