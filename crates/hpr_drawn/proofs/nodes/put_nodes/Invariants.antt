use Rattle.std.proofs.Common.{◌≡◌, ◌++◌, drop}
use Rattle.hpr_drawn.specs.Pictures.{nodes_text}
use Rattle.hpr_drawn.proofs.nodes.put_nodes.Given as goal

abbrev pub invariant-loop-vertex : goal.invariant-loop-vertex
invariant-loop-vertex l = l.out.items ++ nodes_text (drop l.vertex-index l.vertices) ≡ l.initial.out.items ++ nodes_text l.vertices
