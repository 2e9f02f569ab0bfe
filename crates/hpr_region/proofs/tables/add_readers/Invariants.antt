use Rattle.std.proofs.Common.{◌≡◌, Contains, length, take}
use Rattle.hpr_search.specs.Rows.{numbers_at, numbers_of}
use Rattle.hpr_region.proofs.Readers.{AreRead}
use Rattle.hpr_region.proofs.tables.add_readers.Given as goal

abbrev pub invariant-loop-link : goal.invariant-loop-link
invariant-loop-link l = record {
  count : length l.rows.items ≡ length l.fn.rows.items;
  rows : AreRead (λ a b. Contains (numbers_at (numbers_of l.fn.rows.items) a) b) l.item l.places (take l.link-index l.links) (numbers_of l.rows.items);
}
