use Rattle.std.proofs.Common.{inl, inr, sym, subst}
use Rattle.hpr_order.specs.Lifting.{IsUnder}
use Rattle.hpr_order.proofs.Climbs.{under_cases, pair_first, pair_second}
use Rattle.hpr_order.proofs.lift.lifted.Goals as goal

pub returns-then-over-source : goal.returns-then-over-source
returns-then-over-source c = under_cases c.args.items.now c.args.source c.args.target (subst (λ z. IsUnder c.args.items.now z c.args.target) c.if-over-source.true c.climbed-over.ensures.under)

pub returns-then-levels-source : goal.returns-then-levels-source
returns-then-levels-source c =
    pair_second c.args.items.now c.siblings-first.result.0 c.siblings-first.result.1 c.args.source c.climbed-over.result c.args.target c.siblings-first.ensures c.climbed-over.ensures.under

pub returns-else-source-target : goal.returns-else-source-target
returns-else-source-target c = elim (under_cases c.args.items.now c.args.target c.args.source (subst (λ z. IsUnder c.args.items.now z c.args.source) c.if-over-target.true c.climbed-over-2.ensures.under)) [
  | inl same ↦ absurd (c.if-source-target.false (sym same))
  | inr below ↦ below
]

pub returns : goal.returns
returns c =
    pair_first c.args.items.now c.siblings-first-2.result.0 c.siblings-first-2.result.1 c.climbed-over-2.result c.args.target c.args.source c.siblings-first-2.ensures c.climbed-over-2.ensures.under
