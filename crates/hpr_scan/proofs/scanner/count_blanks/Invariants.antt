use Rattle.std.proofs.Common.{◌≡◌, ◌+◌, drop}
use Rattle.std.specs.List.{prefix_len}
use Rattle.hpr_terms.specs.Tokens.{is_blank}
use Rattle.hpr_scan.proofs.scanner.count_blanks.Given as goal

abbrev pub invariant-loop-place : goal.invariant-loop-place
invariant-loop-place l = prefix_len is_blank l.bytes ≡ l.place + prefix_len is_blank (drop l.place l.bytes)
