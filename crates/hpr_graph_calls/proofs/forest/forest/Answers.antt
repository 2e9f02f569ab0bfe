use Rattle.hpr_graph_calls.proofs.ForestExample.{four_from}
use Rattle.hpr_graph_calls.proofs.forest.forest.Goals as goal

pub new-requires-5-clause-forest : goal.new-requires-5-clause-forest
new-requires-5-clause-forest c =
    four_from c.in_ok-parents.parents.items c.in_ok-children.children.items c.in_ok-before.before.items
    c.in_ok-under_zero.under_zero c.new.result c.new-2.result c.new-3.result
    c.in_ok-before_zero.before_zero c.in_ok-before_one.before_one c.in_ok-before_two.before_two c.new-4.result
    c.in_ok-parents.ensures.items c.in_ok-children.ensures.items c.in_ok-before.ensures.items
    record {
      under_zero = c.in_ok-under_zero.ensures.items;
      under_one = c.new.ensures.items;
      under_two = c.new-2.ensures.items;
      under_three = c.new-3.ensures.items;
      before_zero = c.in_ok-before_zero.ensures;
      before_one = c.in_ok-before_one.ensures;
      before_two = c.in_ok-before_two.ensures;
      before_three = c.new-4.ensures.items;
    }
