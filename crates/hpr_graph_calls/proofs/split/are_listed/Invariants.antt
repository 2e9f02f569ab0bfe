use Rattle.std.proofs.Common.{Contains, take}
use Rattle.hpr_graph.specs.declared.vertex.Vertex.{Vertex}
use Rattle.hpr_graph.specs.Fits.{IsPart}
use Rattle.hpr_graph.specs.Numbered.{HasVertex}
use Rattle.hpr_graph_calls.proofs.split.are_listed.Given as goal

abbrev pub invariant-loop-vertex : goal.invariant-loop-vertex
invariant-loop-vertex l = (v : Vertex) → Contains (take l.vertex-index l.vertices) v → IsPart v → HasVertex l.list v
