use Rattle.std.proofs.Common.{◌++◌, map, codes, refl}
use Rattle.hpr_report.specs.GraphTexts.{vertex_text, on_lines}
use Rattle.hpr_report.proofs.Lines.{put_next}
use Rattle.hpr_report.proofs.graphs.put_vertices.Goals as goal

pub loop-vertex-preserved : goal.loop-vertex-preserved
loop-vertex-preserved c =
    put_next (λ vs. on_lines (map vertex_text vs)) (λ x. vertex_text x ++ codes "\n") (λ x rest. refl) c.args.vertices.now c.loop-vertex.vertex-index c.vertex-item.result
    c.loop-vertex.out.items c.put_vertex_line.new.out.items _ c.loop-vertex-test.true c.vertex-item.is c.loop-vertex.invariant c.in_ok-put_vertex_line.ensures
