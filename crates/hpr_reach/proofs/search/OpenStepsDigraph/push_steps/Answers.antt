use Rattle.std.proofs.Common.{rules, ◌<◌, List, All, length, subst}
use Rattle.std.specs.Option.{option_copied}
use Rattle.hpr_paths.specs.declared.spot.Step.{Step}
use Rattle.hpr_paths.specs.Spots.{next_at, defined_at}
use Rattle.hpr_reach.specs.OpenSteps.{is_at}
use Rattle.hpr_reach.proofs.Targets.{open_within}
use Rattle.hpr_reach.proofs.search.OpenStepsDigraph.push_steps.Goals as goal

pub returns-clause-within : goal.returns-clause-within
returns-clause-within c =
    let g = c.args.self.now in
    open_within _ (is_at (option_copied g.name) (defined_at g.succ.now c.args.point)) g.loops.now (next_at g.succ.now c.args.point)
    (subst (λ (steps : List Step). All (λ s. s.to < length g.succ.now) steps) c.next-steps.ensures.next c.next-steps.ensures.within)

pub returns-clause-pushed : goal.returns-clause-pushed
returns-clause-pushed c = search rules
