use Rattle.std.proofs.Common.{◌≡◌, ◌++◌, drop, map}
use Rattle.serde_json.specs.View.{view}
use Rattle.hpr_json.specs.Outcomes.{integer_data}
use Rattle.hpr_json.proofs.outcomes.numbers.Given as goal

abbrev pub invariant-loop-number : goal.invariant-loop-number
invariant-loop-number l = map view l.values.items ++ map integer_data (drop l.number-index l.numbers) ≡ map integer_data l.numbers
