use Rattle.std.proofs.Common.{◌≡◌, length, take}
use Rattle.hpr_search.specs.Rows.{numbers_at}
use Rattle.hpr_merge.specs.Firsts.{AreFirstsFrom, IsClosedUnder}
use Rattle.hpr_merge.proofs.firsts.firsts_from.Given as goal

abbrev pub invariant-loop-link : goal.invariant-loop-link
invariant-loop-link l = record {
  count : length l.firsts.items ≡ length l.rows;
  closed : IsClosedUnder (numbers_at l.rows) l.firsts.items;
  firsts : AreFirstsFrom (numbers_at l.rows) (take l.link-index l.links) l.firsts.items;
}
