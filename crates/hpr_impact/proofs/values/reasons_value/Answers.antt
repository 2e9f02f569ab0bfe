use Rattle.std.proofs.Common.{map, ap, ◌∙◌}
use Rattle.serde_json.specs.Written.{has_float}
use Rattle.hpr_located.specs.Sources.{standing_of}
use Rattle.hpr_impact.specs.Shown.{listed_data}
use Rattle.hpr_impact.proofs.Whole.{reasons_whole}
use Rattle.hpr_impact.proofs.values.reasons_value.Goals as goal

pub returns-clause-whole : goal.returns-clause-whole
returns-clause-whole c = ap has_float (c.in_ok-value.ensures ∙ ap listed_data c.in_ok-values.ensures) ∙ reasons_whole (map standing_of c.args.sources.now) c.args.reasons.now
