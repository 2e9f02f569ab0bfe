use Rattle.std.proofs.Common.{◌≡◌, ◌++◌, drop, flat_map, string_bytes}
use Rattle.hpr_report.specs.Texts.{comma_number}
use Rattle.hpr_report.proofs.values.put_more.Given as goal

abbrev pub invariant-loop-number : goal.invariant-loop-number
invariant-loop-number l = string_bytes l.text ++ flat_map comma_number (drop l.number-index l.numbers) ≡ string_bytes l.initial.text ++ flat_map comma_number l.numbers
