use Rattle.std.proofs.Common.{map}
use Rattle.hpr_inputs.specs.Points.{point_text}
use Rattle.hpr_inputs.proofs.PointLemmas.{AreNumbersTo}
use Rattle.hpr_inputs.proofs.points.numbers_among.Given as goal

abbrev pub invariant-loop-at : goal.invariant-loop-at
invariant-loop-at l = AreNumbersTo (map point_text l.vertices) (map (λ w. w.now) l.fn.words) l.numbers.items l.at
