use Rattle.std.proofs.Common.{◌≡◌, ◌∙◌}
use Rattle.std.specs.Option.{option_copied}
use Rattle.hpr_paths.specs.Spots.{next_at}
use Rattle.hpr_reach.specs.OpenSteps.{targets}
use Rattle.hpr_reach.proofs.Walks.{reach_sound, reach_complete}
use Rattle.hpr_reach.proofs.search.reach_past.Goals as goal

pub returns-clause-exact : goal.returns-clause-exact
returns-clause-exact c = λ q.
    let starts : c.as_slice.result.now ≡ targets c.args.loops.now (next_at c.args.succ.now c.args.from) = c.as_slice.ensures.value ∙ c.in_ok-starts.ensures.targets in
    rw c.new.ensures (
      (λ h. reach_sound c.args.succ.now (option_copied c.args.name) c.args.loops.now c.as_slice.result.now c.args.from q starts (c.in_ok-reached.ensures.sound q h)),
      (λ h. c.in_ok-reached.ensures.complete q (reach_complete c.args.succ.now (option_copied c.args.name) c.args.loops.now c.as_slice.result.now c.args.from q starts h)),
    )
