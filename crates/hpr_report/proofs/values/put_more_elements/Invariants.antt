use Rattle.std.proofs.Common.{◌≡◌, ◌++◌, drop, flat_map, string_bytes}
use Rattle.hpr_report.specs.Texts.{comma_element}
use Rattle.hpr_report.proofs.values.put_more_elements.Given as goal

abbrev pub invariant-loop-element : goal.invariant-loop-element
invariant-loop-element l = string_bytes l.text ++ flat_map comma_element (drop l.element-index l.elements) ≡ string_bytes l.initial.text ++ flat_map comma_element l.elements
