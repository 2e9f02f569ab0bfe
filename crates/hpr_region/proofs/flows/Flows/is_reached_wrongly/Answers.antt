use Rattle.std.proofs.Common.{Option, List, ℕ, ap, ◌∙◌}
use Rattle.hpr_region.specs.Private.Summaries.{some_reach}
use Rattle.hpr_region.proofs.Latest.{reach_same}
use Rattle.hpr_region.proofs.flows.Flows.is_reached_wrongly.Goals as goal

pub returns : goal.returns
returns c = λ placed is.
    let t = c.args.self.now in
    c.is_one_reaching.ensures ∙ ap (λ (xs : List (Option ℕ)). some_reach t xs c.args.child c.uses_of.result.now) c.deref.ensures.value
    ∙ ap (λ (vs : List ℕ). some_reach t c.args.summary.now.last.items c.args.child vs) c.uses_of.ensures ∙ reach_same t placed c.args.summary.now.last.items c.args.child is.last
