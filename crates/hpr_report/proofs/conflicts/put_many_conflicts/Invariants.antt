use Rattle.std.proofs.Common.{◌≡◌, ◌++◌, drop, map}
use Rattle.hpr_report.specs.ConflictsText.{many_conflict_text}
use Rattle.hpr_report.specs.GraphTexts.{on_lines}
use Rattle.hpr_report.proofs.conflicts.put_many_conflicts.Given as goal

abbrev pub invariant-loop-conflict : goal.invariant-loop-conflict
invariant-loop-conflict l = l.out.items ++ on_lines (map many_conflict_text (drop l.conflict-index l.conflicts)) ≡ l.initial.out.items ++ on_lines (map many_conflict_text l.conflicts)
