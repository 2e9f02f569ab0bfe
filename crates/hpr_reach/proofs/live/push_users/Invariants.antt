use Rattle.std.proofs.Common.{◌≡◌, ◌⊎◌, ◌↔◌, ℕ, Some, List, Contains, length, take, slice_get}
use Rattle.hpr_search.specs.Rows.{numbers_at}
use Rattle.hpr_reach.proofs.live.push_users.Given as goal

abbrev pub invariant-loop-name : goal.invariant-loop-name
invariant-loop-name l = record {
  count : length l.rows ≡ length l.fn.rows;
  rows : (i : ℕ) (x : List ℕ) → slice_get l.names i ≡ Some x → (p : ℕ)
      → Contains (numbers_at l.rows i) p ↔ (Contains (numbers_at l.fn.rows i) p ⊎ (Contains (take l.name-index l.name-items) x × (l.point ≡ p)));
}
