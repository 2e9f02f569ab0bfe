use Rattle.std.proofs.Common.{◌≡◌, ◌<◌, List, length, ap, ◌∙◌}
use Rattle.hpr_paths.specs.Spots.{Spot, names_of}
use Rattle.hpr_paths.proofs.Readers.{names_read, used_by_role, ok_then}
use Rattle.hpr_paths.proofs.succ.Succ.used_names.Goals as goal

pub returns-clause-names : goal.returns-clause-names
returns-clause-names c =
    let xs : List Spot = c.self.inside.spots.items in
    let same : xs ≡ c.args.self.now = c.self.view_is in
    let low : c.args.point < length xs = rw same c.requires in
    rw (← same) (ok_then c.names_of.result _ _ c.names_of.ensures (λ names is.
    names_read xs c.args.point c.index-spot.result.now names.items low c.index-spot.ensures (is ∙ ap (λ (s : Spot). names_of s.role) c.spot.view_is)))

pub returns-clause-uses : goal.returns-clause-uses
returns-clause-uses c =
    let xs : List Spot = c.self.inside.spots.items in
    let same : xs ≡ c.args.self.now = c.self.view_is in
    let low : c.args.point < length xs = rw same c.requires in
    rw (← same) (ok_then c.names_of.result _ _ c.names_of.ensures (λ names is.
    used_by_role xs c.args.point c.index-spot.result.now names.items low c.index-spot.ensures (is ∙ ap (λ (s : Spot). names_of s.role) c.spot.view_is)))
