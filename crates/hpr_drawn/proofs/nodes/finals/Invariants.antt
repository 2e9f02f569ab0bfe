use Rattle.std.proofs.Common.{◌≡◌, ◌++◌, drop, filter}
use Rattle.hpr_drawn.specs.Pictures.{is_final}
use Rattle.hpr_drawn.proofs.nodes.finals.Given as goal

abbrev pub invariant-loop-vertex : goal.invariant-loop-vertex
invariant-loop-vertex l = l.finals.items ++ filter is_final (drop l.vertex-index l.vertices) ≡ filter is_final l.vertices
