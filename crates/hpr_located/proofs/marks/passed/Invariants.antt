use Rattle.std.proofs.Common.{◌≡◌, ◌+◌, ◌≤◌, ◌==◌, not, take, count_by}
use Rattle.std.specs.List.{suffix_len}
use Rattle.hpr_located.proofs.marks.passed.Given as goal

abbrev pub invariant-loop-at : goal.invariant-loop-at
invariant-loop-at l = record {
  line : l.line ≡ count_by (λ b. b == 10) (take l.at l.bytes) + 1;
  column : l.column ≡ suffix_len (λ b. not (b == 10)) (take l.at l.bytes) + 1;
  few_lines : l.line ≤ l.at + 1;
  few_columns : l.column ≤ l.at + 1;
}
