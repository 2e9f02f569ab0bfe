use Rattle.std.proofs.Common.{ap, codes, ◌∙◌}
use Rattle.serde_json.specs.Data.{string, array, object, member, no_members}
use Rattle.serde_json.specs.View.{items_of}
use Rattle.serde_json.specs.Written.{has_float}
use Rattle.hpr_json.proofs.Whole.{conflicts_whole}
use Rattle.hpr_json.proofs.answers.conflicts_value.Goals as goal

pub returns-clause-whole : goal.returns-clause-whole
returns-clause-whole c =
    let listed = ap (λ ds. object (member (codes "conflicts") (array (items_of ds)) (member (codes "status") (string (codes "interference")) no_members))) c.in_ok-values.ensures in
    ap has_float (c.in_ok-listed_value.ensures ∙ listed) ∙ conflicts_whole c.args.conflicts.now
