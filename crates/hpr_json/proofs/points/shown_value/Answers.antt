use Rattle.std.proofs.Common.{ap, codes, ◌∙◌}
use Rattle.serde_json.specs.Data.{string, array, object, member, no_members}
use Rattle.serde_json.specs.View.{items_of}
use Rattle.serde_json.specs.Written.{has_float}
use Rattle.hpr_json.proofs.Whole.{points_whole}
use Rattle.hpr_json.proofs.points.shown_value.Goals as goal

pub returns-clause-whole : goal.returns-clause-whole
returns-clause-whole c =
    let listed = ap (λ ds. object (member (codes "points") (array (items_of ds)) (member (codes "status") (string (codes "done")) no_members))) c.in_ok-values.ensures in
    ap has_float (c.in_ok-listed_value.ensures ∙ listed) ∙ points_whole c.args.vertices.now
