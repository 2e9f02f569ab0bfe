use Rattle.std.proofs.Common.{ℕ, ◌<◌}
use Rattle.hpr_graph.proofs.Twinned.{IsVertexWithin}
use Rattle.hpr_graph.proofs.same.is_within.Given as goal

abbrev pub invariant-loop-at : goal.invariant-loop-at
invariant-loop-at l = (i : ℕ) → i < l.at → IsVertexWithin l.graph l.other i
