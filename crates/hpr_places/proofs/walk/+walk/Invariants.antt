use Rattle.std.proofs.Common.{◌≡◌, ◌≤◌, ◌++◌, length, drop}
use Rattle.hpr_syntax.specs.BodyOf.{body_of}
use Rattle.hpr_places.specs.Private.Walk.{walk}
use Rattle.hpr_places.proofs.walk.+walk.Given as goal

abbrev pub invariant-walk_block-loop-stmt : goal.invariant-walk_block-loop-stmt
invariant-walk_block-loop-stmt l = record {
  block : body_of l.stmt-items ≡ l.block;
  grows : l.at ≤ l.end;
  within : l.end ≤ length l.bytes;
  end : (walk l.bytes (body_of (drop l.stmt-index l.stmt-items)) l.end).end ≡ (walk l.bytes l.block l.at).end;
  found : l.found.items ++ (walk l.bytes (body_of (drop l.stmt-index l.stmt-items)) l.end).places ≡ l.initial.found.items ++ (walk l.bytes l.block l.at).places;
}
