use Rattle.std.proofs.Common.{◌≡◌, length, take}
use Rattle.hpr_json.proofs.Marked.{AreMarksOf}
use Rattle.hpr_json.proofs.points.marks_of.Given as goal

abbrev pub invariant-loop-point : goal.invariant-loop-point
invariant-loop-point l = record {
  count : length l.marks.items ≡ length l.graph.vertices;
  marks : AreMarksOf (take l.point-index l.points) l.marks.items;
}
