use Rattle.std.proofs.Common.{◌<◌, ◌↔◌, Contains}
use Rattle.hpr_paths.specs.Spots.{UsesAt}
use Rattle.hpr_graph.specs.Graphs.{IsOnce}
use Rattle.hpr_build.specs.declared.uses.Use.{Use}
use Rattle.hpr_build.proofs.uses.part_uses.Given as goal

abbrev pub invariant-loop-point : goal.invariant-loop-point
invariant-loop-point l = record {
  exact : (u : Use) → Contains l.uses.items u ↔ ((u.number < l.point) × UsesAt l.succ u.number u.name);
  once : IsOnce l.uses.items;
}
