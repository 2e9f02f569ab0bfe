use Rattle.std.proofs.Common.{List, ℕ, sym, subst}
use Rattle.hpr_forest.specs.Forest.{IsDistinct}
use Rattle.hpr_region.proofs.Searching.{placed_once}
use Rattle.hpr_region.proofs.search.Search.admits.Goals as goal

pub clashes-requires-clause-once : goal.clashes-requires-clause-once
clashes-requires-clause-once c =
    let s = c.self.inside in
    subst (λ (xs : List ℕ). IsDistinct xs) (sym c.deref-3.ensures.value) (placed_once s.plan s.items.items c.self.invariant.front)
