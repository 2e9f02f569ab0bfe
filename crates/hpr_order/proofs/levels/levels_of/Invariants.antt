use Rattle.std.proofs.Common.{◌≡◌, vec_len}
use Rattle.hpr_order.proofs.Steps.{IsLevelled}
use Rattle.hpr_order.proofs.levels.levels_of.Given as goal

abbrev pub invariant-loop-item : goal.invariant-loop-item
invariant-loop-item l = record {
  len : vec_len l.levels ≡ l.item-index;
  levelled : IsLevelled l.items l.item-index l.levels.items;
}
