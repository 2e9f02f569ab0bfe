use Rattle.std.proofs.Common.{◌≡◌, ◌++◌, drop, map}
use Rattle.serde_json.specs.View.{view}
use Rattle.hpr_located.specs.Sources.{standing_of}
use Rattle.hpr_told.specs.Outcomes.{renamed_data}
use Rattle.hpr_told.proofs.sought.renamed_values.Given as goal

abbrev pub invariant-loop-vertex : goal.invariant-loop-vertex
invariant-loop-vertex l =
    map view l.values.items ++ map (renamed_data (map standing_of l.sources)) (drop l.vertex-index l.renamed)
    ≡ map (renamed_data (map standing_of l.sources)) l.renamed
