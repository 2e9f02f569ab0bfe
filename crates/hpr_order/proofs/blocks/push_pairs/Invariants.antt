use Rattle.hpr_order.specs.Tables.{AreLatest}
use Rattle.hpr_order.proofs.Tabling.{IsLiftedTo}
use Rattle.hpr_order.proofs.blocks.push_pairs.Given as goal

abbrev pub invariant-loop-source : goal.invariant-loop-source
invariant-loop-source l = record {
  latest : AreLatest l.asked l.latest.items;
  lifted : IsLiftedTo l.items l.pairs l.source-index l.asked;
}
