use Rattle.std.proofs.Common.{◌∙◌, ◌<◌, ℕ, List, ap, ap₂, length, map, subst, sym}
use Rattle.std.specs.Prelude.{All}
use Rattle.serde_json.specs.Data.{Data}
use Rattle.hpr_located.specs.Sources.{standing_of}
use Rattle.hpr_told.specs.Clashes.{clash_object, numbered_data}
use Rattle.hpr_told.proofs.clash.clash_value.Goals as goal

pub numbered_values-requires : goal.numbered_values-requires
numbered_values-requires c = subst (All (λ n. n < length c.args.graph.now.vertices)) (sym c.deref.ensures.value) c.requires.0

pub numbered_value-requires : goal.numbered_value-requires
numbered_value-requires c = c.requires.1

pub returns : goal.returns
returns c =
    let at = numbered_data (map standing_of c.args.sources.now) c.args.graph.now in
    let behind = c.in_ok-behind.ensures ∙ ap (λ (ns : List ℕ). map at ns) c.deref.ensures.value in
    c.in_ok-clash_object.ensures ∙ ap₂ (λ (vs : List Data) (v : Data). clash_object vs v) behind c.in_ok-part.ensures
