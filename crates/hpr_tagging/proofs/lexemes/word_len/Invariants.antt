use Rattle.std.proofs.Common.{◌≡◌, ◌+◌, drop}
use Rattle.std.specs.List.{prefix_len}
use Rattle.hpr_terms.specs.Names.{is_name_byte}
use Rattle.hpr_tagging.proofs.lexemes.word_len.Given as goal

abbrev pub invariant-loop-place : goal.invariant-loop-place
invariant-loop-place l = prefix_len is_name_byte l.bytes ≡ l.place + prefix_len is_name_byte (drop l.place l.bytes)
