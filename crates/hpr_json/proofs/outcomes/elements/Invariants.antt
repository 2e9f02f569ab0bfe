use Rattle.std.proofs.Common.{◌≡◌, ◌++◌, drop, map}
use Rattle.serde_json.specs.View.{view}
use Rattle.hpr_json.specs.Outcomes.{element_data}
use Rattle.hpr_json.proofs.outcomes.elements.Given as goal

abbrev pub invariant-loop-entry : goal.invariant-loop-entry
invariant-loop-entry l = map view l.values.items ++ map element_data (drop l.entry-index l.entries) ≡ map element_data l.entries
