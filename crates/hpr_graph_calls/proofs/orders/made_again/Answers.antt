use Rattle.std.proofs.Common.{ℕ, List, sym, subst}
use Rattle.hpr_order.specs.Arranging.{IsPreorderOf}
use Rattle.hpr_graph_calls.proofs.orders.made_again.Goals as goal

pub arrange-requires-clause-arrangement : goal.arrange-requires-clause-arrangement
arrange-requires-clause-arrangement c = (
  c.in_ok-first.first,
  (c.in_ok-all.ensures.0 c.in_ok-first.first).0 c.in_ok-first.ensures,
  subst (λ (ns : List ℕ). IsPreorderOf c.args.graph.now ns c.in_ok-first.first) (sym c.deref.ensures.value) c.in_ok-order.ensures,
)
