use Rattle.std.proofs.Common.{◌++◌, ◌∙◌, ℕ, List, ap, map}
use Rattle.std.proofs.lemmas.List.{take_all}
use Rattle.hpr_build.specs.Links.{name_vertex}
use Rattle.hpr_build.proofs.tables.push_names.Goals as goal

pub returns : goal.returns
returns c = c.loop-name.invariant ∙ ap (λ (xs : List (List ℕ)). c.args.into.now.items ++ map (name_vertex c.args.is_final) xs) (take_all c.loop-name.name-index c.args.names.now c.loop-name-test.false)
