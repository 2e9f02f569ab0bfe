use Rattle.std.proofs.Common.{◌≡◌, ◌++◌, drop, map, string_bytes}
use Rattle.hpr_report.specs.GraphTexts.{vertex_text}
use Rattle.hpr_report.proofs.edges.texts.Given as goal

abbrev pub invariant-loop-vertex : goal.invariant-loop-vertex
invariant-loop-vertex l = map string_bytes l.texts.items ++ map vertex_text (drop l.vertex-index l.vertices) ≡ map vertex_text l.vertices
