use Rattle.std.proofs.Common.{◌↔◌, Contains, IsTrue, string_bytes, subst, sym}
use Rattle.hpr_inputs.proofs.points.has.Goals as goal

pub returns : goal.returns
returns c = λ texts h. subst (λ b. IsTrue b ↔ Contains texts (string_bytes c.args.text.now)) (sym c.contains.ensures) (h c.args.text.now)
