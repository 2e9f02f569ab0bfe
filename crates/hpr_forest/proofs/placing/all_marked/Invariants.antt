use Rattle.std.proofs.Common.{◌≡◌, drop}
use Rattle.hpr_forest.specs.Forest.{all_in}
use Rattle.hpr_forest.proofs.placing.all_marked.Given as goal

abbrev pub invariant-loop-item : goal.invariant-loop-item
invariant-loop-item l = all_in l.placed l.items ≡ all_in l.placed (drop l.item-index l.items)
