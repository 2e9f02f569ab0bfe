use Rattle.std.proofs.Common.{◌≡◌, ◌++◌, drop}
use Rattle.hpr_tagging.specs.Tagging.{changed}
use Rattle.hpr_tagging.proofs.texts.changed.Given as goal

abbrev pub invariant-loop-change : goal.invariant-loop-change
invariant-loop-change l = l.out.items ++ changed l.author l.bytes l.at (drop l.change-index l.changes) ≡ changed l.author l.bytes 0 l.changes
