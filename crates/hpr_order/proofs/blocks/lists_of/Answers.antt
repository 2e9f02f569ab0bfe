use Rattle.std.proofs.Common.{◌≡◌, ◌<◌, ◌∙◌, length, sym, subst, arith}
use Rattle.hpr_search.specs.Rows.{numbers_at}
use Rattle.hpr_forest.specs.Blocks.{row_at}
use Rattle.hpr_order.proofs.Tabling.{column_more}
use Rattle.hpr_order.proofs.blocks.lists_of.Goals as goal

pub loop-at-preserved : goal.loop-at-preserved
loop-at-preserved c = record {
  len = omega (arith, c.in_ok-push.ensures.len, c.loop-at.invariant.len);
  same = column_more (λ k o. row_at o ≡ numbers_at c.args.rows.now k) c.loop-at.lists.items c.push.new.self.items c.loop-at.at c.in_ok-list_of.field-0
      (sym c.loop-at.lists.ok.0 ∙ c.loop-at.invariant.len) c.in_ok-push.ensures.items c.in_ok-list_of.ensures c.loop-at.invariant.same;
}

pub returns : goal.returns
returns c =
    let whole : c.loop-at.at ≡ length c.args.rows.now = omega (arith, c.loop-at.auto.at-end, c.loop-at-test.false, c.point_count-at-end.ensures) in
    record {
      count = sym c.loop-at.lists.ok.0 ∙ c.loop-at.invariant.len ∙ whole;
      same = λ k lt. c.loop-at.invariant.same k (subst (λ n. k < n) (sym whole) lt);
    }
