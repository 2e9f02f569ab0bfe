use Rattle.std.proofs.Common.{◌≡◌, ◌⊎◌, ◌↔◌, ◌+◌, ◌<◌, ℕ, Some, Contains, slice_get}
use Rattle.hpr_graph.specs.Graphs.{IsOnce}
use Rattle.hpr_build.specs.declared.uses.Use.{Use}
use Rattle.hpr_build.proofs.uses.push_ends.Given as goal

abbrev pub invariant-loop-at : goal.invariant-loop-at
invariant-loop-at l = record {
  exact : (u : Use) → Contains l.into.items u ↔ (Contains l.fn.into.items u ⊎ ((j : ℕ) × (j < l.at) × (slice_get l.finals j ≡ Some u.name) × (u.number ≡ l.exit + j)));
  once : IsOnce l.fn.into.items → ((u : Use) → Contains l.fn.into.items u → u.number < l.exit) → IsOnce l.into.items;
}
