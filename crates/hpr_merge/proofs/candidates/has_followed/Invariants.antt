use Rattle.std.proofs.Common.{take}
use Rattle.hpr_merge.specs.Candidates.{HasFollowed}
use Rattle.hpr_merge.proofs.candidates.has_followed.Given as goal

abbrev pub invariant-loop-link : goal.invariant-loop-link
invariant-loop-link l = HasFollowed (take l.link-index l.links) l.known
