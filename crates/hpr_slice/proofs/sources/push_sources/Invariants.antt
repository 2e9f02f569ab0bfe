use Rattle.std.proofs.Common.{◌≡◌, ◌++◌, drop}
use Rattle.hpr_slice.specs.Neighbours.{sources_of}
use Rattle.hpr_slice.proofs.sources.push_sources.Given as goal

abbrev pub invariant-loop-link : goal.invariant-loop-link
invariant-loop-link l = l.into.items ++ sources_of (drop l.link-index l.links) ≡ l.fn.into.items ++ sources_of l.links
