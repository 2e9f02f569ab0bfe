use Rattle.std.proofs.Common.{◌≡◌, map, take}
use Rattle.hpr_graph.specs.Split.{renamed, with_new_tags}
use Rattle.hpr_split.proofs.renaming.all_renamed.Given as goal

abbrev pub invariant-loop-vertex : goal.invariant-loop-vertex
invariant-loop-vertex l = l.all.items ≡ map (renamed (with_new_tags l.serial l.parts)) (take l.vertex-index l.vertices)
