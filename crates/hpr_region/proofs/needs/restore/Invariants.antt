use Rattle.std.proofs.Common.{◌≡◌, ◌+◌, ◌<◌, ℕ, drop, get_or, length, vec_len}
use Rattle.hpr_region.specs.Private.Needs.{tied}
use Rattle.hpr_region.proofs.needs.restore.Given as goal

abbrev pub invariant-loop-source : goal.invariant-loop-source
invariant-loop-source l = record {
  count : length l.needs.items ≡ vec_len l.flows.slots;
  each : (g : ℕ) → g < vec_len l.flows.slots → get_or l.needs.items g 0 + tied l.flows l.rivals l.placed l.child g (drop l.source-index l.sources)
      ≡ get_or l.fn.needs.items g 0 + tied l.flows l.rivals l.placed l.child g l.sources;
}
