use Rattle.std.proofs.Common.{◌≡◌, ◌++◌, drop, map}
use Rattle.serde_json.specs.View.{view}
use Rattle.hpr_json.specs.Vertices.{many_conflict_data}
use Rattle.hpr_json.proofs.answers.conflict_values.Given as goal

abbrev pub invariant-loop-conflict : goal.invariant-loop-conflict
invariant-loop-conflict l = map view l.values.items ++ map many_conflict_data (drop l.conflict-index l.conflicts) ≡ map many_conflict_data l.conflicts
