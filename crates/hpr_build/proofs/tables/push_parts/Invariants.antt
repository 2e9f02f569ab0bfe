use Rattle.std.proofs.Common.{◌≡◌, ◌++◌, map, take}
use Rattle.hpr_build.specs.Links.{part_vertex}
use Rattle.hpr_build.proofs.tables.push_parts.Given as goal

abbrev pub invariant-loop-place : goal.invariant-loop-place
invariant-loop-place l = l.into.items ≡ l.fn.into.items ++ map part_vertex (take l.place-index l.places)
