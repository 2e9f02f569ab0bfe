use Rattle.std.proofs.Common.{◌≡◌, ◌+◌, drop}
use Rattle.std.specs.List.{prefix_len}
use Rattle.hpr_scan.specs.Scanner.{goes_on_comment}
use Rattle.hpr_scan.proofs.scanner.count_comment.Given as goal

abbrev pub invariant-loop-place : goal.invariant-loop-place
invariant-loop-place l = prefix_len goes_on_comment l.bytes ≡ l.place + prefix_len goes_on_comment (drop l.place l.bytes)
