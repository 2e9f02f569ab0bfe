use Rattle.std.proofs.Common.{◌≡◌, ◌++◌, drop, map}
use Rattle.serde_json.specs.Data.{string}
use Rattle.serde_json.specs.View.{view}
use Rattle.hpr_report.specs.GraphTexts.{vertex_words}
use Rattle.hpr_report.proofs.objects.vertex_values.Given as goal

abbrev pub invariant-loop-vertex : goal.invariant-loop-vertex
invariant-loop-vertex l = map view l.values.items ++ map (λ v. string (vertex_words v)) (drop l.vertex-index l.vertices) ≡ map (λ v. string (vertex_words v)) l.vertices
