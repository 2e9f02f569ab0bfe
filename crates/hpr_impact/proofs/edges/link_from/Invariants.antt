use Rattle.std.proofs.Common.{drop}
use Rattle.hpr_slice.specs.Neighbours.{HasSource}
use Rattle.hpr_impact.proofs.edges.link_from.Given as goal

abbrev pub invariant-loop-link : goal.invariant-loop-link
invariant-loop-link l = HasSource (drop l.link-index l.links) l.from
