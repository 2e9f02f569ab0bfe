use Rattle.std.proofs.Common.{vec_len}
use Rattle.hpr_order.specs.Joining.{runs_of}
use Rattle.hpr_order.proofs.Joins.{AreTaken}
use Rattle.hpr_order.proofs.joining.runs_in.Given as goal

abbrev pub invariant-loop-part : goal.invariant-loop-part
invariant-loop-part l = AreTaken l.list.keys l.initial.parts.items l.parts.items (runs_of l.runs.items) l.at

abbrev pub decreases-loop-part : goal.decreases-loop-part
decreases-loop-part l = vec_len l.parts
