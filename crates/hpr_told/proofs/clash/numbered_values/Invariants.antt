use Rattle.std.proofs.Common.{◌≡◌, ◌++◌, drop, map}
use Rattle.serde_json.specs.View.{view}
use Rattle.hpr_located.specs.Sources.{standing_of}
use Rattle.hpr_told.specs.Clashes.{numbered_data}
use Rattle.hpr_told.proofs.clash.numbered_values.Given as goal

abbrev pub invariant-loop-number : goal.invariant-loop-number
invariant-loop-number l =
    map view l.values.items ++ map (numbered_data (map standing_of l.sources) l.graph) (drop l.number-index l.numbers)
    ≡ map (numbered_data (map standing_of l.sources) l.graph) l.numbers
