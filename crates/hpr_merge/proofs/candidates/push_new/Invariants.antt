use Rattle.std.proofs.Common.{take}
use Rattle.hpr_merge.proofs.NewLinks.{ArePushed}
use Rattle.hpr_merge.proofs.candidates.push_new.Given as goal

abbrev pub invariant-loop-link : goal.invariant-loop-link
invariant-loop-link l = ArePushed (take l.link-index l.links) l.known l.fn.into.items l.into.items
