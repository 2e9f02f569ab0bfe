use Rattle.std.proofs.Common.{◌↔◌, Contains, take}
use Rattle.hpr_build.specs.declared.orders.Ordered.{Ordered}
use Rattle.hpr_graph.specs.Graphs.{IsOnce}
use Rattle.hpr_build.specs.Orders.{IsBefore}
use Rattle.hpr_build.proofs.orders.order_of.Given as goal

abbrev pub invariant-loop-at : goal.invariant-loop-at
invariant-loop-at l = record {
  exact : (o : Ordered) → Contains l.pairs.items o ↔ (Contains (take l.at l.definitions) o.left × Contains l.definitions o.right × IsBefore l.places o.left
      o.right);
  once : IsOnce l.pairs.items;
}
