use Rattle.std.proofs.Common.{◌≡◌, ◌<◌, ◌≤◌, ℕ, None, get_or, vec_len}
use Rattle.hpr_region.specs.Private.Rivals.{group_by}
use Rattle.hpr_region.proofs.rivals.groups_of.Given as goal

abbrev pub invariant-loop-item : goal.invariant-loop-item
invariant-loop-item l = record {
  count : vec_len l.groups ≡ l.item;
  end : l.item ≤ vec_len l.flows.slots;
  groups : (a : ℕ) → a < l.item → get_or l.groups.items a None ≡ group_by l.flows l.definers a;
}
