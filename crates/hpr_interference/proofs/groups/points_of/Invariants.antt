use Rattle.std.proofs.Common.{◌≡◌, get_or, map, take}
use Rattle.hpr_graph.specs.declared.conflict.ManyConflict.{ManyConflict}
use Rattle.hpr_interference.proofs.groups.points_of.Given as goal

abbrev pub invariant-loop-at : goal.invariant-loop-at
invariant-loop-at l = (c : ManyConflict) → map (λ p. p.now) l.points.items ≡ map (λ i. (get_or l.conflicts i c).point) (take l.at-index l.row)
