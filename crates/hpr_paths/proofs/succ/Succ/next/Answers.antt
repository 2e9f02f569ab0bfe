use Rattle.std.proofs.Common.{◌≡◌, ◌<◌, List, length, All, ap, subst, sym, ◌∙◌}
use Rattle.hpr_paths.specs.declared.spot.Step.{Step}
use Rattle.hpr_paths.specs.Spots.{Spot}
use Rattle.hpr_paths.proofs.Readers.{next_within}
use Rattle.hpr_paths.proofs.succ.Succ.next.Goals as goal

pub returns-clause-within : goal.returns-clause-within
returns-clause-within c =
    let xs : List Spot = c.self.inside.spots.items in
    let same : xs ≡ c.args.self.now = c.self.view_is in
    let low : c.args.point < length xs = rw same c.requires in
    let P : List Step → Type 0 = λ ts. All (λ t. t.to < length c.args.self.now) ts in
    let next : c.index-spot.result.now.next ≡ c.deref.result.now = ap (λ (s : Spot). s.next) (sym c.spot.view_is) ∙ sym c.deref.ensures.value in
    subst P next (rw (← same) (next_within xs c.args.point c.index-spot.result.now c.self.invariant low c.index-spot.ensures))
