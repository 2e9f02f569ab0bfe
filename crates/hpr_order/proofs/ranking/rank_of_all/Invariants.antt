use Rattle.std.proofs.Common.{map, take}
use Rattle.hpr_graph.specs.Graphs.{IsOnce}
use Rattle.hpr_graph.specs.Rank.{parts_of, AreJoined}
use Rattle.hpr_order.proofs.ranking.rank_of_all.Given as goal

abbrev pub invariant-loop-variant : goal.invariant-loop-variant
invariant-loop-variant l =
    AreJoined (map parts_of (take l.variant-index l.variants)) l.initial.list.items l.list.items × IsOnce l.list.items
