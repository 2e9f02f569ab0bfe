use Rattle.std.proofs.Common.{◌++◌, ap, codes, ◌∙◌}
use Rattle.hpr_json.proofs.line.json_line.Goals as goal

pub returns : goal.returns
returns c = (c.in_ok-push.ensures).items ∙ ap (λ x. x ++ codes "\n") ((c.in_ok-out.ensures).text c.requires)
