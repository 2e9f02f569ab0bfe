use Rattle.std.proofs.Common.{◌≡◌, ◌++◌, drop, map}
use Rattle.serde_json.specs.View.{view}
use Rattle.hpr_c.specs.Places.{place_data}
use Rattle.hpr_c.proofs.parts.place_values.Given as goal

abbrev pub invariant-loop-placed : goal.invariant-loop-placed
invariant-loop-placed l = map view l.values.items ++ map place_data (drop l.placed-index l.found) ≡ map place_data l.found
