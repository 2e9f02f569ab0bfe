use Rattle.std.proofs.Common.{ℕ, Bool, List, ◌↔◌, Contains, subst}
use Rattle.hpr_search.specs.Marks.{IsMarked}
use Rattle.hpr_graph.specs.declared.vertex.Vertex.{Vertex}
use Rattle.hpr_graph.specs.Numbered.{graph_in, IsOneOf}
use Rattle.hpr_graph.specs.Slices.{IsReached}
use Rattle.hpr_located.specs.Sources.{standing_of}
use Rattle.hpr_impact.specs.Lines.{AreMarkedLines, BeginsIn}
use Rattle.hpr_impact.proofs.Marking.{marks_same}
use Rattle.hpr_impact.proofs.LineMarks.{begins_same}
use Rattle.hpr_impact.proofs.marks.impact_marks.Goals as goal

pub returns : goal.returns
returns c =
    let s = standing_of c.args.source.now in
    let graph = c.args.graph.now in
    let P = IsReached (graph_in graph) (IsOneOf graph c.args.points.now) in
    let marks = c.in_ok-marks.marks.items in
    let marked = subst (λ (vs : List Vertex). (n : ℕ) → IsMarked marks n ↔ BeginsIn s (Contains vs) n) c.vertices.ensures.vertices c.in_ok-marks.ensures in
    marks_same (IsMarked marks) (BeginsIn s P) (λ n. begins_same s c.in_ok-reached.reached.vertices P (IsMarked marks) c.in_ok-reached.ensures.1 marked n) 1 c.args.bytes.now c.in_ok-text.text.items
    (subst (λ (ms : List Bool). AreMarkedLines (IsMarked ms) 1 c.args.bytes.now c.in_ok-text.text.items) c.deref.ensures.value c.in_ok-text.ensures)
