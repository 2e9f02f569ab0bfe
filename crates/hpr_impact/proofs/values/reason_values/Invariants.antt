use Rattle.std.proofs.Common.{◌≡◌, ◌++◌, drop, map}
use Rattle.serde_json.specs.View.{view}
use Rattle.hpr_located.specs.Sources.{standing_of}
use Rattle.hpr_impact.specs.Shown.{reason_data}
use Rattle.hpr_impact.proofs.values.reason_values.Given as goal

abbrev pub invariant-loop-reason : goal.invariant-loop-reason
invariant-loop-reason l = map view l.values.items ++ map (reason_data (map standing_of l.sources)) (drop l.reason-index l.reasons) ≡ map (reason_data (map standing_of l.sources)) l.reasons
