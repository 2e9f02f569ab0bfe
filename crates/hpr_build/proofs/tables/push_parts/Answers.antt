use Rattle.std.proofs.Common.{◌++◌, ◌∙◌, List, ap, map}
use Rattle.std.proofs.lemmas.List.{take_all}
use Rattle.hpr_build.specs.Places.{Place}
use Rattle.hpr_build.specs.Links.{part_vertex}
use Rattle.hpr_build.proofs.tables.push_parts.Goals as goal

pub returns : goal.returns
returns c = c.loop-place.invariant ∙ ap (λ (ps : List Place). c.args.into.now.items ++ map part_vertex ps) (take_all c.loop-place.place-index c.args.places.now c.loop-place-test.false)
