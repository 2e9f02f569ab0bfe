use Rattle.std.proofs.Common.{◌≡◌, ◌<◌, List, length, ap, sym, ◌∙◌}
use Rattle.hpr_paths.specs.Spots.{enter, part, exit, Spot}
use Rattle.hpr_paths.specs.Roles.{role_of}
use Rattle.hpr_paths.proofs.Readers.{tag_by_role, none_by_role}
use Rattle.hpr_paths.proofs.succ.Succ.tag.Goals as goal

pub returns-in-Enter-clause-tag : goal.returns-in-Enter-clause-tag
returns-in-Enter-clause-tag c =
    let xs : List Spot = c.self.inside.spots.items in
    let same : xs ≡ c.args.self.now = c.self.view_is in
    let low : c.args.point < length xs = rw same c.requires in
    let role : c.index-spot.result.now.role ≡ enter = ap (λ (s : Spot). s.role) (sym c.spot.view_is) ∙ ap role_of c.in-Enter.is in
    rw (← same) (tag_by_role xs c.args.point c.index-spot.result.now _ low c.index-spot.ensures role)

pub returns-in-Enter-clause-none : goal.returns-in-Enter-clause-none
returns-in-Enter-clause-none c =
    let xs : List Spot = c.self.inside.spots.items in
    let same : xs ≡ c.args.self.now = c.self.view_is in
    let low : c.args.point < length xs = rw same c.requires in
    let role : c.index-spot.result.now.role ≡ enter = ap (λ (s : Spot). s.role) (sym c.spot.view_is) ∙ ap role_of c.in-Enter.is in
    rw (← same) (none_by_role xs c.args.point c.index-spot.result.now _ c.self.invariant low c.index-spot.ensures role)

pub returns-in-Part-clause-tag : goal.returns-in-Part-clause-tag
returns-in-Part-clause-tag c =
    let xs : List Spot = c.self.inside.spots.items in
    let same : xs ≡ c.args.self.now = c.self.view_is in
    let low : c.args.point < length xs = rw same c.requires in
    let role : c.index-spot.result.now.role ≡ part c.in-Part.tag c.in-Part.field-1 = ap (λ (s : Spot). s.role) (sym c.spot.view_is) ∙ ap role_of c.in-Part.is in
    rw (← same) (tag_by_role xs c.args.point c.index-spot.result.now _ low c.index-spot.ensures role)

pub returns-in-Part-clause-none : goal.returns-in-Part-clause-none
returns-in-Part-clause-none c =
    let xs : List Spot = c.self.inside.spots.items in
    let same : xs ≡ c.args.self.now = c.self.view_is in
    let low : c.args.point < length xs = rw same c.requires in
    let role : c.index-spot.result.now.role ≡ part c.in-Part.tag c.in-Part.field-1 = ap (λ (s : Spot). s.role) (sym c.spot.view_is) ∙ ap role_of c.in-Part.is in
    rw (← same) (none_by_role xs c.args.point c.index-spot.result.now _ c.self.invariant low c.index-spot.ensures role)

pub returns-in-Exit-clause-tag : goal.returns-in-Exit-clause-tag
returns-in-Exit-clause-tag c =
    let xs : List Spot = c.self.inside.spots.items in
    let same : xs ≡ c.args.self.now = c.self.view_is in
    let low : c.args.point < length xs = rw same c.requires in
    let role : c.index-spot.result.now.role ≡ exit c.in-Exit.field-0.items = ap (λ (s : Spot). s.role) (sym c.spot.view_is) ∙ ap role_of c.in-Exit.is in
    rw (← same) (tag_by_role xs c.args.point c.index-spot.result.now _ low c.index-spot.ensures role)

pub returns-in-Exit-clause-none : goal.returns-in-Exit-clause-none
returns-in-Exit-clause-none c =
    let xs : List Spot = c.self.inside.spots.items in
    let same : xs ≡ c.args.self.now = c.self.view_is in
    let low : c.args.point < length xs = rw same c.requires in
    let role : c.index-spot.result.now.role ≡ exit c.in-Exit.field-0.items = ap (λ (s : Spot). s.role) (sym c.spot.view_is) ∙ ap role_of c.in-Exit.is in
    rw (← same) (none_by_role xs c.args.point c.index-spot.result.now _ c.self.invariant low c.index-spot.ensures role)
