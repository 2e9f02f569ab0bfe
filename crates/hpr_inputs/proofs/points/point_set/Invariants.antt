use Rattle.std.proofs.Common.{map, take}
use Rattle.hpr_inputs.specs.Points.{point_text}
use Rattle.hpr_inputs.specs.ReadsPoints.{HasTexts}
use Rattle.hpr_inputs.proofs.points.point_set.Given as goal

abbrev pub invariant-loop-vertex : goal.invariant-loop-vertex
invariant-loop-vertex l = HasTexts l.set (map point_text (take l.vertex-index l.vertices))
