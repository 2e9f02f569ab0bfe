use Rattle.std.proofs.Common.{refl}
use Rattle.hpr_graph.specs.Twins.{HasTwin}
use Rattle.hpr_graph.proofs.Lists.{never, member_at, taken_more, taken_all}
use Rattle.hpr_graph.proofs.same.is_row_within.Goals as goal

pub returns-then-not-has_twin : goal.returns-then-not-has_twin
returns-then-not-has_twin c = (
  λ t. absurd (never _ t refl),
  λ all. absurd (never c.has_twin.result (c.has_twin.ensures.1 (all _ (member_at c.args.row.now c.loop-link.link-index _ c.loop-link-test.true))) c.if-not-has_twin.true),
)

pub loop-link-preserved : goal.loop-link-preserved
loop-link-preserved c =
    taken_more c.args.row.now c.loop-link.link-index _ (λ l. HasTwin c.args.vertices.now l c.args.other.now.vertices c.args.other_row.now) c.loop-link-test.true c.loop-link.invariant
    (c.has_twin.ensures.0 c.if-not-has_twin.false)

pub returns : goal.returns
returns c =
    (λ t l there. c.loop-link.invariant l (taken_all c.args.row.now c.loop-link.link-index l c.loop-link-test.false there), λ all. refl)
