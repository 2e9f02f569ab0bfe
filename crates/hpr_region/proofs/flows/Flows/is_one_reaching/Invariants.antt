use Rattle.std.proofs.Common.{◌≡◌, drop}
use Rattle.hpr_region.specs.Private.Summaries.{some_reach}
use Rattle.hpr_region.proofs.flows.Flows.is_one_reaching.Given as goal

abbrev pub invariant-loop-variable : goal.invariant-loop-variable
invariant-loop-variable l = some_reach l.self l.last l.child l.variables ≡ some_reach l.self l.last l.child (drop l.variable-index l.variables)
