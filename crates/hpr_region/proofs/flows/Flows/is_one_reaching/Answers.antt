use Rattle.std.proofs.Common.{◌≡◌, ℕ, Option, Some, None, IfSome, get_or, refl, sym, ap, ◌∙◌}
use Rattle.hpr_region.specs.Private.Summaries.{is_reached_by}
use Rattle.hpr_region.proofs.Latest.{reach_here, reach_later}
use Rattle.hpr_region.proofs.flows.Flows.is_one_reaching.Goals as goal

pub loop-variable-preserved : goal.loop-variable-preserved
loop-variable-preserved c =
    let same = sym (ap (λ (o : Option ℕ). is_reached_by c.args.self.now o c.args.child) c.number_at.ensures) ∙ sym c.is_reached_by.ensures in
    c.loop-variable.invariant ∙ reach_later c.args.self.now c.args.last.now c.args.child c.args.variables.now c.loop-variable.variable-index c.loop-variable-test.true (same ∙ c.if-is_reached_by.false)

pub returns-then-is_reached_by : goal.returns-then-is_reached_by
returns-then-is_reached_by c =
    let same = sym (ap (λ (o : Option ℕ). is_reached_by c.args.self.now o c.args.child) c.number_at.ensures) ∙ sym c.is_reached_by.ensures in
    sym (c.loop-variable.invariant ∙ reach_here c.args.self.now c.args.last.now c.args.child c.args.variables.now c.loop-variable.variable-index c.loop-variable-test.true (same ∙ c.if-is_reached_by.true))

within : (o : Option ℕ) (P : ℕ → Type 0) → ((d : ℕ) → o ≡ Some d → P d) → IfSome o P
within None P h = tt
within (Some d) P h = h d refl

pub is_reached_by-requires-clause-last : goal.is_reached_by-requires-clause-last
is_reached_by-requires-clause-last c =
    within c.number_at.result _ (λ d e. c.requires.last (get_or c.args.variables.now c.loop-variable.variable-index 0) d (sym c.number_at.ensures ∙ e))
