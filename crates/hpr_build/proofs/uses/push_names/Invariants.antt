use Rattle.std.proofs.Common.{◌≡◌, ◌⊎◌, ◌↔◌, ◌<◌, Contains, take}
use Rattle.hpr_graph.specs.Graphs.{IsOnce}
use Rattle.hpr_build.specs.declared.uses.Use.{Use}
use Rattle.hpr_build.proofs.uses.push_names.Given as goal

abbrev pub invariant-loop-name : goal.invariant-loop-name
invariant-loop-name l = record {
  exact : (u : Use) → Contains l.into.items u ↔ (Contains l.fn.into.items u ⊎ (Contains (take l.name-index l.names) u.name × (l.number ≡ u.number)));
  once : IsOnce l.fn.into.items → ((u : Use) → Contains l.fn.into.items u → u.number < l.number) → IsOnce l.into.items;
}
