use Rattle.std.proofs.Common.{◌≡◌, length}
use Rattle.hpr_graph.specs.Numbered.{row_of}
use Rattle.hpr_search.specs.Rows.{numbers_of}
use Rattle.hpr_region.specs.Making.{IsReadFrom}
use Rattle.hpr_region.proofs.Readers.{AreReadBelow}
use Rattle.hpr_region.proofs.tables.readers_by.Given as goal

abbrev pub invariant-loop-item : goal.invariant-loop-item
invariant-loop-item l = record {
  count : length l.rows.items ≡ length l.numbers;
  rows : AreReadBelow (λ n a. IsReadFrom l.places (row_of l.graph n) a) l.numbers l.item (numbers_of l.rows.items);
}
