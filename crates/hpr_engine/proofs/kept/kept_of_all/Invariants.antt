use Rattle.std.proofs.Common.{◌≡◌, drop, length}
use Rattle.hpr_graph.specs.Answer.{graphs_of}
use Rattle.hpr_engine.proofs.KeptParts.{AreKeptSoFar}
use Rattle.hpr_engine.proofs.kept.kept_of_all.Given as goal

abbrev pub invariant-loop-variant : goal.invariant-loop-variant
invariant-loop-variant l = (length l.keep.items ≡ length l.graph.vertices)
    × AreKeptSoFar (graphs_of l.variants) (graphs_of (drop l.variant-index l.variants)) l.graph l.taken.tags.keys l.keep.items
