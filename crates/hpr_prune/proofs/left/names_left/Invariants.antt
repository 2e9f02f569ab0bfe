use Rattle.hpr_graph.specs.Numbered.{HasVertex}
use Rattle.hpr_prune.proofs.Lists.{AreLeftTo}
use Rattle.hpr_prune.proofs.left.names_left.Given as goal

abbrev pub invariant-loop-name : goal.invariant-loop-name
invariant-loop-name l = AreLeftTo (HasVertex l.slice) l.names l.name-index l.left.items
