use Rattle.std.proofs.Common.{◌≡◌, ◌+◌, ◌≤◌, drop}
use Rattle.hpr_region.specs.Private.Needs.{tied}
use Rattle.hpr_region.proofs.rivals.Rivals.tied.Given as goal

abbrev pub invariant-loop-source : goal.invariant-loop-source
invariant-loop-source l = record {
  most : l.count ≤ l.source-index;
  counted : l.count + tied l.flows l.self l.placed l.child l.group (drop l.source-index l.sources) ≡ tied l.flows l.self l.placed l.child l.group l.sources;
}
