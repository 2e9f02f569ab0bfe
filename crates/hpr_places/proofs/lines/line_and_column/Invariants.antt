use Rattle.std.proofs.Common.{◌≡◌, ◌+◌, ◌≤◌, ◌==◌, not, take, count_by}
use Rattle.std.specs.List.{suffix_len}
use Rattle.hpr_places.proofs.lines.line_and_column.Given as goal

abbrev pub invariant-loop-passed : goal.invariant-loop-passed
invariant-loop-passed l = record {
  line : l.line ≡ count_by (λ b. b == 10) (take l.passed-index l.passed-items) + 1;
  column : l.column ≡ suffix_len (λ b. not (b == 10)) (take l.passed-index l.passed-items) + 1;
  few_lines : l.line ≤ l.passed-index + 1;
  few_columns : l.column ≤ l.passed-index + 1;
}
