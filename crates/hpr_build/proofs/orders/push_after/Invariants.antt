use Rattle.std.proofs.Common.{◌≡◌, ◌⊎◌, ◌↔◌, ◌<◌, ◌≤◌, ◌-◌, Contains, get_or, length, take}
use Rattle.hpr_build.specs.declared.orders.Ordered.{Ordered}
use Rattle.hpr_graph.specs.Graphs.{IsOnce}
use Rattle.hpr_build.specs.Orders.{IsBefore}
use Rattle.hpr_build.specs.Places.{IsParted}
use Rattle.hpr_build.proofs.Pairs.{After}
use Rattle.hpr_build.proofs.orders.push_after.Given as goal

abbrev pub invariant-loop-next : goal.invariant-loop-next
invariant-loop-next l = record {
  low : l.at < l.next;
  within : l.next ≤ length l.definitions;
  here : l.next < length l.definitions → ¬ IsParted l.places l.left (get_or l.definitions l.next 0);
  exact : (o : Ordered) → Contains l.into.items o ↔ (Contains l.fn.into.items o ⊎ After (IsBefore l.places l.left) l.left (take l.next l.definitions) o);
  once : IsOnce l.fn.into.items → ((o : Ordered) → Contains l.fn.into.items o → o.left ≡ l.left → ⊥) → IsOnce l.into.items;
}

abbrev pub decreases-loop-next : goal.decreases-loop-next
decreases-loop-next l = length l.initial.definitions - l.next
