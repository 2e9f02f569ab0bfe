use Rattle.std.proofs.Common.{take}
use Rattle.hpr_graph.specs.Twins.{HasTwins}
use Rattle.hpr_graph.proofs.same.is_row_within.Given as goal

abbrev pub invariant-loop-link : goal.invariant-loop-link
invariant-loop-link l = HasTwins l.vertices (take l.link-index l.row) l.other.vertices l.other_row
