use Rattle.std.proofs.Common.{◌≡◌, length, take}
use Rattle.hpr_impact.specs.Private.Ways.{IsTableOf}
use Rattle.hpr_impact.proofs.why.table_of.Given as goal

abbrev pub invariant-loop-visit : goal.invariant-loop-visit
invariant-loop-visit l = record {
  count : length l.table.items ≡ l.count;
  table : IsTableOf (take l.visit-index l.visits) l.table.items;
}
