use Rattle.std.proofs.Common.{◌≡◌, ◌∙◌, ℕ, ◌<◌, ◌++◌, List, All, length, ap, sym, subst}
use Rattle.hpr_reach.specs.OpenSteps.{targets}
use Rattle.hpr_reach.proofs.Targets.{targets_within}
use Rattle.hpr_reach.proofs.search.first_targets.Goals as goal

pub returns-clause-within : goal.returns-clause-within
returns-clause-within c =
    let are : c.push_targets.new.into.items ≡ targets c.args.loops.now c.next.result.now =
    c.in_ok-push_targets.ensures ∙ ap (λ (xs : List ℕ). xs ++ targets c.args.loops.now c.next.result.now) c.new-starts.ensures.items in
    subst (λ (xs : List ℕ). All (λ q. q < length c.args.succ.now) xs) (sym are) (targets_within _ c.args.loops.now c.next.result.now c.next.ensures.within)
