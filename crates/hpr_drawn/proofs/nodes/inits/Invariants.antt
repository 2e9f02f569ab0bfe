use Rattle.std.proofs.Common.{◌≡◌, ◌++◌, drop, filter}
use Rattle.hpr_drawn.specs.Pictures.{is_init}
use Rattle.hpr_drawn.proofs.nodes.inits.Given as goal

abbrev pub invariant-loop-vertex : goal.invariant-loop-vertex
invariant-loop-vertex l = l.inits.items ++ filter is_init (drop l.vertex-index l.vertices) ≡ filter is_init l.vertices
