use Rattle.std.proofs.Common.{◌≡◌, ◌++◌, drop, map, string_bytes}
use Rattle.hpr_report.specs.GraphTexts.{on_lines}
use Rattle.hpr_report.proofs.edges.put_lines.Given as goal

abbrev pub invariant-loop-text : goal.invariant-loop-text
invariant-loop-text l = l.out.items ++ on_lines (map string_bytes (drop l.text-index l.texts)) ≡ l.initial.out.items ++ on_lines (map string_bytes l.texts)
