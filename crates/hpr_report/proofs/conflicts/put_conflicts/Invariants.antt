use Rattle.std.proofs.Common.{◌≡◌, ◌++◌, drop, map}
use Rattle.hpr_report.specs.ConflictsText.{conflict_text}
use Rattle.hpr_report.specs.GraphTexts.{on_lines}
use Rattle.hpr_report.proofs.conflicts.put_conflicts.Given as goal

abbrev pub invariant-loop-conflict : goal.invariant-loop-conflict
invariant-loop-conflict l = l.out.items ++ on_lines (map conflict_text (drop l.conflict-index l.conflicts)) ≡ l.initial.out.items ++ on_lines (map conflict_text l.conflicts)
