use Rattle.std.proofs.Common.{◌≡◌, ◌↔◌, ℕ, Some, List, Contains, length, take, vec_len, slice_get}
use Rattle.hpr_graph.specs.Graphs.{IsOnce}
use Rattle.hpr_build.specs.Uses.{IsUsedFrom}
use Rattle.hpr_build.specs.Variables.{points_at}
use Rattle.hpr_build.proofs.variables.users_of.Given as goal

abbrev pub invariant-loop-one : goal.invariant-loop-one
invariant-loop-one l = record {
  len : vec_len l.rows ≡ length l.names;
  rows : (i : ℕ) (x : List ℕ) → slice_get l.names i ≡ Some x → (p : ℕ) → Contains (points_at l.rows.items i) p ↔ IsUsedFrom l.exit (take l.one-index l.uses) x p;
  once : (i : ℕ) (x : List ℕ) → slice_get l.names i ≡ Some x → IsOnce (points_at l.rows.items i);
}
