use Rattle.std.proofs.Common.{◌≡◌, ◌++◌, drop, map}
use Rattle.hpr_located.specs.Sources.{part_vertex}
use Rattle.hpr_drawn.proofs.nodes.part_vertices.Given as goal

abbrev pub invariant-loop-row : goal.invariant-loop-row
invariant-loop-row l = l.parts.items ++ map part_vertex (drop l.row-index l.rows) ≡ map part_vertex l.rows
