use Rattle.std.proofs.Common.{◌≡◌, ◌<◌, ℕ, List, length, All, ap, subst, sym, ◌∙◌}
use Rattle.hpr_paths.specs.Spots.{Spot}
use Rattle.hpr_paths.proofs.Readers.{nest_within}
use Rattle.hpr_paths.proofs.succ.Succ.nest.Goals as goal

pub returns-clause-within : goal.returns-clause-within
returns-clause-within c =
    let xs : List Spot = c.self.inside.spots.items in
    let same : xs ≡ c.args.self.now = c.self.view_is in
    let low : c.args.point < length xs = rw same c.requires in
    let P : List ℕ → Type 0 = λ ws. All (λ w. w < length c.args.self.now) ws in
    let nest : c.index-spot.result.now.nest ≡ c.deref.result.now = ap (λ (s : Spot). s.nest) (sym c.spot.view_is) ∙ sym c.deref.ensures.value in
    subst P nest (rw (← same) (nest_within xs c.args.point c.index-spot.result.now c.self.invariant low c.index-spot.ensures))
