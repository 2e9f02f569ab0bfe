use Rattle.std.proofs.Common.{string_bytes}
use Rattle.hpr_inputs.proofs.PointLemmas.{adds_text}
use Rattle.hpr_inputs.proofs.points.insert.Goals as goal

pub returns : goal.returns
returns c = λ s. adds_text (string_bytes c.args.text) (string_bytes s) _ _ (c.in_ok-insert.ensures.updates.0 s)
