use Rattle.std.proofs.Common.{map, take}
use Rattle.hpr_inputs.specs.ReadsPoints.{HasTexts}
use Rattle.hpr_inputs.proofs.points.word_set.Given as goal

abbrev pub invariant-loop-word : goal.invariant-loop-word
invariant-loop-word l = HasTexts l.set (map (λ w. w.now) (take l.word-index l.words))
