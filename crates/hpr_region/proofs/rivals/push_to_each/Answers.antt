use Rattle.std.proofs.Common.{◌∙◌, arith}
use Rattle.hpr_search.specs.Rows.{numbers_of}
use Rattle.hpr_search.proofs.RowLists.{length_rows}
use Rattle.hpr_region.proofs.Rivalry.{each_more}
use Rattle.hpr_region.proofs.rivals.push_to_each.Goals as goal

pub loop-at-preserved : goal.loop-at-preserved
loop-at-preserved c = record {
  count = c.in_ok-push_at.ensures.count ∙ c.loop-at.invariant.count;
  rows = λ d u.
      each_more (numbers_of c.loop-at.rows.items) (numbers_of c.push_at.new.rows.items) c.args.each.now c.loop-at.at-index c.args.number d u 0 _ c.loop-at-test.true
      (let lt = c.requires c.loop-at.at-index 0 c.loop-at-test.true in let l = length_rows c.loop-at.rows.items in omega (arith, lt, l, c.loop-at.invariant.count)) c.in_ok-push_at.ensures.exact (c.loop-at.invariant.rows d u);
}
