use Rattle.std.proofs.Common.{◌≡◌, drop, map}
use Rattle.hpr_located.specs.Sources.{spot_of, standing_of}
use Rattle.hpr_located.proofs.shown.spot_of.Given as goal

abbrev pub invariant-loop-source : goal.invariant-loop-source
invariant-loop-source l = spot_of (map standing_of (drop l.source-index l.sources)) l.vertex ≡ spot_of (map standing_of l.sources) l.vertex
