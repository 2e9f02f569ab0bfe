use Rattle.std.proofs.Common.{◌≡◌, ◌≤◌, filter, length, take}
use Rattle.hpr_rebuild.specs.Parts.{is_part}
use Rattle.hpr_rebuild.proofs.count.parts_among.Given as goal

abbrev pub invariant-loop-vertex : goal.invariant-loop-vertex
invariant-loop-vertex l = (l.parts ≡ length (filter is_part (take l.vertex-index l.vertices))) × (l.parts ≤ l.vertex-index)
