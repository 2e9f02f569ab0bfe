use Rattle.std.proofs.Common.{◌≡◌, ◌++◌, drop, map}
use Rattle.hpr_located.specs.Located.{located_at}
use Rattle.hpr_located.specs.Private.Marks.{mark_at}
use Rattle.hpr_located.proofs.located.counted.Given as goal

abbrev pub invariant-loop-placed : goal.invariant-loop-placed
invariant-loop-placed l = record {
  mark : l.mark ≡ mark_at l.bytes l.mark.byte;
  located : l.located.items ++ map (located_at l.bytes) (drop l.placed-index l.places) ≡ map (located_at l.bytes) l.places;
}
