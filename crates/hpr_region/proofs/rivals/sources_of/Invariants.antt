use Rattle.std.proofs.Common.{◌≡◌, length, vec_len}
use Rattle.hpr_region.specs.Private.Rivals.{AreTurned}
use Rattle.hpr_region.proofs.rivals.sources_of.Given as goal

abbrev pub invariant-loop-item : goal.invariant-loop-item
invariant-loop-item l = record {
  count : length l.rows.items ≡ vec_len l.flows.slots;
  turned : AreTurned l.flows l.item l.rows.items;
}
