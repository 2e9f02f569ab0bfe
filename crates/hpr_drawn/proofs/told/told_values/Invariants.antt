use Rattle.std.proofs.Common.{map, take}
use Rattle.serde_json.specs.View.{view}
use Rattle.hpr_located.specs.Sources.{standing_of}
use Rattle.hpr_drawn.specs.Told.{AreTold}
use Rattle.hpr_drawn.proofs.told.told_values.Given as goal

abbrev pub invariant-loop-vertex : goal.invariant-loop-vertex
invariant-loop-vertex l = AreTold (map standing_of l.sources) (take l.vertex-index l.vertices) (map view l.values.items)
