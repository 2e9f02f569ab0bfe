use Rattle.std.proofs.Common.{◌≡◌, map, take}
use Rattle.hpr_build.proofs.flow_links.part_sources.Given as goal

abbrev pub invariant-loop-point : goal.invariant-loop-point
invariant-loop-point l = l.sources.items ≡ map (λ p. record { number = p; point = p }) (take l.point-index l.definitions)
