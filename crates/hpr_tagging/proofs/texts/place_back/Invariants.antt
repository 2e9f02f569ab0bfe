use Rattle.std.proofs.Common.{◌≡◌, drop}
use Rattle.hpr_tagging.specs.Tagging.{place_back}
use Rattle.hpr_tagging.proofs.texts.place_back.Given as goal

abbrev pub invariant-loop-change : goal.invariant-loop-change
invariant-loop-change l = place_back l.author l.at (drop l.change-index l.changes) l.left ≡ place_back l.author 0 l.changes l.place
