use Rattle.std.proofs.Common.{◌↔◌, ℕ, Contains, take}
use Rattle.hpr_search.specs.Marks.{IsMarked}
use Rattle.hpr_build.specs.Reaching.{HasFlowFrom}
use Rattle.hpr_build.proofs.reaching.sources_among.Given as goal

abbrev pub invariant-loop-link : goal.invariant-loop-link
invariant-loop-link l = (p : ℕ) → Contains l.sources.items p ↔ (IsMarked l.definers p × HasFlowFrom (take l.link-index l.links) p)
