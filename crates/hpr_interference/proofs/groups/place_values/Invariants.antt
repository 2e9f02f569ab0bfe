use Rattle.std.proofs.Common.{◌≡◌, ◌++◌, drop, map}
use Rattle.serde_json.specs.View.{view}
use Rattle.hpr_report.specs.GraphJson.{number_data}
use Rattle.hpr_interference.proofs.groups.place_values.Given as goal

abbrev pub invariant-loop-at : goal.invariant-loop-at
invariant-loop-at l = map view l.values.items ++ map number_data (drop l.at-index l.row) ≡ map number_data l.row
