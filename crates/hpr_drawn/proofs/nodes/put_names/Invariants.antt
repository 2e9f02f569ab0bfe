use Rattle.std.proofs.Common.{◌≡◌, ◌++◌, drop}
use Rattle.hpr_drawn.specs.Pictures.{names_text}
use Rattle.hpr_drawn.proofs.nodes.put_names.Given as goal

abbrev pub invariant-loop-vertex : goal.invariant-loop-vertex
invariant-loop-vertex l = l.out.items ++ names_text l.word (drop l.vertex-index l.vertices) ≡ l.initial.out.items ++ names_text l.word l.vertices
