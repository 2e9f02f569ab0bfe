use Rattle.std.proofs.Common.{◌≡◌, ◌++◌, drop, map}
use Rattle.serde_json.specs.View.{view}
use Rattle.hpr_json.specs.Outcomes.{final_data}
use Rattle.hpr_json.proofs.outcomes.final_values.Given as goal

abbrev pub invariant-loop-name : goal.invariant-loop-name
invariant-loop-name l = map view l.values.items ++ map final_data (drop l.name-index l.finals) ≡ map final_data l.finals
