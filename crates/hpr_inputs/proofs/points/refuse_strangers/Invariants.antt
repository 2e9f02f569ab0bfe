use Rattle.std.proofs.Common.{Contains, map}
use Rattle.hpr_inputs.specs.Points.{point_text}
use Rattle.hpr_inputs.proofs.PointLemmas.{Judged}
use Rattle.hpr_inputs.proofs.points.refuse_strangers.Given as goal

abbrev pub invariant-loop-word : goal.invariant-loop-word
invariant-loop-word l = Judged (λ w. w.now) l.words (Contains (map point_text l.fn.vertices)) l.word-index
