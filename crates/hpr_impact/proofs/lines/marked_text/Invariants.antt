use Rattle.std.proofs.Common.{◌≡◌, ◌++◌, ◌+◌, ◌≤◌, true, drop}
use Rattle.hpr_impact.specs.Private.Marking.{marked_from}
use Rattle.hpr_impact.proofs.lines.marked_text.Given as goal

abbrev pub invariant-loop-byte : goal.invariant-loop-byte
invariant-loop-byte l = record {
  text : l.text.items ++ marked_from l.marks l.begins l.line (drop l.byte-index l.bytes) ≡ marked_from l.marks true 1 l.bytes;
  line : l.line ≤ l.byte-index + 1;
}
