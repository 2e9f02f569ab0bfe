use Rattle.std.proofs.Common.{refl, arith}
use Rattle.hpr_graph.proofs.Lists.{read_at}
use Rattle.hpr_engine.proofs.SplitOff.{kept_below}
use Rattle.hpr_engine.proofs.search.are_kept.Goals as goal

pub loop-at-preserved : goal.loop-at-preserved
loop-at-preserved c =
    kept_below c.args.vertices.now c.args.keep.now c.loop-at.at c.index-vertices-at.result _ c.loop-at.invariant
    (read_at c.args.vertices.now c.args.vertices.now c.loop-at.at c.index-vertices-at.result refl c.loop-at-test.true c.index-vertices-at.is) refl
    (c.is_kept.ensures c.if-not-is_kept.false)

pub returns : goal.returns
returns c = λ _ at v below. c.loop-at.invariant at v (omega (arith, below, c.loop-at-test.false))
