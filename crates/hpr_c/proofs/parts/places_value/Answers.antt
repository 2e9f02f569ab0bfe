use Rattle.std.proofs.Common.{◌∙◌, ap}
use Rattle.serde_json.specs.Data.{array}
use Rattle.serde_json.specs.View.{items_of}
use Rattle.serde_json.specs.Written.{has_float}
use Rattle.serde_json.proofs.Views.{view-Array}
use Rattle.hpr_c.proofs.PlacesLemmas.{places_whole}
use Rattle.hpr_c.proofs.parts.places_value.Goals as goal

pub returns-clause-whole : goal.returns-clause-whole
returns-clause-whole c =
    let is = view-Array c.in_ok-place_values.field-0 ∙ ap (λ ds. array (items_of ds)) c.in_ok-place_values.ensures in
    ap has_float is ∙ places_whole c.args.found.now
