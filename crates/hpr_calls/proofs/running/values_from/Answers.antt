use Rattle.std.proofs.Common.{sym, ap, ◌∙◌}
use Rattle.hpr_run.specs.Outcomes.{outcome_of}
use Rattle.hpr_report.proofs.OneTable.{ended_single_valued}
use Rattle.hpr_calls.proofs.running.values_from.Goals as goal

pub returns-in-Ends : goal.returns-in-Ends
returns-in-Ends c =
    ended_single_valued c.args.program.now c.args.state.now 100 c.in-Ends.steps c.in-Ends.finals (sym c.in_ok-finals.ensures ∙ ap outcome_of c.in-Ends.is)
