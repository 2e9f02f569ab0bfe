use Rattle.hpr_order.proofs.Ranked.{IsRankedTo}
use Rattle.hpr_order.proofs.numbers.ranked_parts.Given as goal

abbrev pub invariant-loop-vertex : goal.invariant-loop-vertex
invariant-loop-vertex l = IsRankedTo l.graph l.rank l.vertex-index l.numbers.items
