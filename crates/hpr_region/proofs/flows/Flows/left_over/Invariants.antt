use Rattle.std.proofs.Common.{◌≡◌, ◌+◌, ◌≤◌, drop}
use Rattle.hpr_region.specs.Private.Needs.{left_over}
use Rattle.hpr_region.proofs.flows.Flows.left_over.Given as goal

abbrev pub invariant-loop-reader : goal.invariant-loop-reader
invariant-loop-reader l = record {
  most : l.count ≤ l.reader-index;
  counted : l.count + left_over l.self l.placed l.child (drop l.reader-index l.readers) ≡ left_over l.self l.placed l.child l.readers;
}
