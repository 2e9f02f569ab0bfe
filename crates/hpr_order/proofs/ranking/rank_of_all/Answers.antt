use Rattle.std.proofs.lemmas.Result.{IfOk-weaker}
use Rattle.hpr_graph.specs.Rank.{parts_of, IsJoined, IsRankOf}
use Rattle.hpr_order.proofs.ManyRanks.{joined_all, joined_more}
use Rattle.hpr_order.proofs.ranking.rank_of_all.Goals as goal

pub loop-variant-preserved : goal.loop-variant-preserved
loop-variant-preserved c = (
  joined_more c.args.variants.now c.loop-variant.variant-index c.variant-item.result c.in_ok-list.list.items c.loop-variant.list.items c.in_ok-list-2.list.items c.loop-variant-test.true c.variant-item.is
      c.loop-variant.invariant.0 c.in_ok-list-2.ensures.joined,
  c.in_ok-list-2.ensures.once,
)

pub returns : goal.returns
returns c =
    let base = c.args.base.now in
    let variants = c.args.variants.now in
    let list = c.loop-variant.list.items in
    IfOk-weaker c.join_program-2.result (λ v. IsJoined (parts_of base) list v.items) (λ v. IsRankOf base variants v.items)
    (λ v joined.
    joined_all base variants c.loop-variant.variant-index c.first_changed.result.now c.in_ok-list.list.items list v.items c.loop-variant-test.false c.first_changed.ensures c.in_ok-list.ensures.parts c.loop-variant.invariant.0 joined)
    c.join_program-2.ensures.joined
