-- A program made an arrangement: with other issued numbers, and its finals in ascending order.
--
-- IsSettled issued p q == q is p with these issued numbers and its finals in ascending order
use Rattle.std.specs.Prelude.{◌≡◌}
use Rattle.std.specs.List.Sorted.{IsPermutation}
use Rattle.hpr_syntax.specs.Issued.{Issued}
use Rattle.hpr_syntax.specs.Tree.{Tree}
use Rattle.hpr_graph.specs.Order.{name_cmp}
use Rattle.hpr_graph.specs.InOrder.{Ascends}

pub record IsSettled (issued : Issued) (p q : Tree) : Type 0 where
  pub body : p.body ≡ q.body
  pub numbers : q.issued ≡ issued
  pub names : IsPermutation p.finals q.finals
  pub ascending : Ascends name_cmp q.finals
