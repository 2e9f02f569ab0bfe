use Rattle.std.proofs.Common.{codes, map, ap₂, ◌∙◌}
use Rattle.serde_json.specs.Data.{Data, Members, object, put}
use Rattle.hpr_report.specs.GraphJson.{number_data}
use Rattle.hpr_located.specs.Sources.{standing_of}
use Rattle.hpr_impact.proofs.Whole.{put_reason}
use Rattle.hpr_impact.proofs.values.reason_value.Goals as goal

pub returns : goal.returns
returns c =
    let r = c.args.reason.now in
    c.in_ok-value.ensures ∙ ap₂ (λ (point : Data) (ms : Members). object (put (codes "root") (number_data r.root) (put (codes "point") point ms))) c.in_ok-point.ensures.data c.in_ok-members.ensures
    ∙ put_reason (map standing_of c.args.sources.now) r
