use Rattle.std.proofs.Common.{◌≡◌, take}
use Rattle.hpr_affected.specs.Shared.{AreOfBase, others_of}
use Rattle.hpr_graph_calls.proofs.many.beside.Given as goal

abbrev pub invariant-loop-variant : goal.invariant-loop-variant
invariant-loop-variant l = AreOfBase l.base l.comparisons.items × (others_of l.comparisons.items ≡ take l.variant-index l.variants)
