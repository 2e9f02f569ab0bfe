use Rattle.std.proofs.Common.{◌≡◌, ◌++◌, drop, map}
use Rattle.std.specs.Prelude.{zip}
use Rattle.serde_json.specs.View.{view}
use Rattle.hpr_located.specs.Sources.{standing_of}
use Rattle.hpr_interference.specs.Answers.{conflict_data}
use Rattle.hpr_interference.proofs.shown.conflict_values.Given as goal

abbrev pub invariant-loop-at : goal.invariant-loop-at
invariant-loop-at l =
    map view l.values.items ++ map (conflict_data (map standing_of l.sources)) (drop l.at (zip l.conflicts l.numbers))
    ≡ map (conflict_data (map standing_of l.sources)) (zip l.conflicts l.numbers)
