use Rattle.std.proofs.Common.{arith}
use Rattle.hpr_run.specs.Outcomes.{outcome_of}
use Rattle.hpr_decisions.proofs.TrialLemmas.{single_finals, steps_within}
use Rattle.hpr_app.proofs.TrialLemmas.{of_runs}
use Rattle.hpr_app.proofs.trial.try_merged.Goals as goal

pub show_runs-requires-clause-base : goal.show_runs-requires-clause-base
show_runs-requires-clause-base c = single_finals c.args.versions.now.base c.args.state.now c.args.steps (outcome_of c.in_ok-base.base) c.in_ok-base.ensures

pub show_runs-requires-clause-a : goal.show_runs-requires-clause-a
show_runs-requires-clause-a c = single_finals c.args.versions.now.a c.args.state.now c.args.steps (outcome_of c.in_ok-a.a) c.in_ok-a.ensures

pub show_runs-requires-clause-b : goal.show_runs-requires-clause-b
show_runs-requires-clause-b c = single_finals c.args.versions.now.b c.args.state.now c.args.steps (outcome_of c.in_ok-b.b) c.in_ok-b.ensures

pub show_runs-requires-clause-steps : goal.show_runs-requires-clause-steps
show_runs-requires-clause-steps c =
    let base = steps_within c.args.versions.now.base c.args.state.now c.args.steps (outcome_of c.in_ok-base.base) c.in_ok-base.ensures in
    let a = steps_within c.args.versions.now.a c.args.state.now c.args.steps (outcome_of c.in_ok-a.a) c.in_ok-a.ensures in
    let b = steps_within c.args.versions.now.b c.args.state.now c.args.steps (outcome_of c.in_ok-b.b) c.in_ok-b.ensures in
    omega (arith, c.requires, base, a, b)

pub returns : goal.returns
returns c =
    let v = c.args.versions.now in
    of_runs v.base v.a v.b c.args.merged.now c.args.state.now c.args.steps (outcome_of c.in_ok-base.base) (outcome_of c.in_ok-a.a) (outcome_of c.in_ok-b.b) c.show_runs.result
    c.in_ok-base.ensures c.in_ok-a.ensures c.in_ok-b.ensures c.show_runs.ensures
