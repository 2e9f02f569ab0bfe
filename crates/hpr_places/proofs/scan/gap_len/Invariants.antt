use Rattle.std.proofs.Common.{◌≡◌, ◌+◌, drop, false}
use Rattle.hpr_places.specs.Private.Walk.{gap_len}
use Rattle.hpr_places.proofs.scan.gap_len.Given as goal

abbrev pub invariant-loop-place : goal.invariant-loop-place
invariant-loop-place l = gap_len false l.bytes ≡ l.place + gap_len l.comment (drop l.place l.bytes)
