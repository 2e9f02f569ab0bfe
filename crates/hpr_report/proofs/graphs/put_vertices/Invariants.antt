use Rattle.std.proofs.Common.{◌≡◌, ◌++◌, drop, map}
use Rattle.hpr_report.specs.GraphTexts.{vertex_text, on_lines}
use Rattle.hpr_report.proofs.graphs.put_vertices.Given as goal

abbrev pub invariant-loop-vertex : goal.invariant-loop-vertex
invariant-loop-vertex l = l.out.items ++ on_lines (map vertex_text (drop l.vertex-index l.vertices)) ≡ l.initial.out.items ++ on_lines (map vertex_text l.vertices)
