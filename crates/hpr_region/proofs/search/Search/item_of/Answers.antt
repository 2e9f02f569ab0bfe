use Rattle.std.proofs.Common.{◌≡◌, Option, List, [], ℕ, true, Some, IsSome, slice_get, refl, sym, ap, ◌∙◌, subst}
use Rattle.hpr_graph.specs.Moves.{number_at as number_in}
use Rattle.hpr_forest.specs.Choices.{Follows}
use Rattle.hpr_region.specs.Plans.{State, may_follow}
use Rattle.hpr_region.proofs.Exact.{same_item}
use Rattle.hpr_region.proofs.search.Search.item_of.Goals as goal

pub unwrap-requires : goal.unwrap-requires
unwrap-requires c =
    let (k, at, may) = c.requires in
    let there : slice_get c.self.inside.plan.numbers.items k ≡ Some c.args.child = subst (λ (z : State). slice_get z.plan.numbers.items k ≡ Some c.args.child) (sym c.self.view_is) at in
    let found : c.number_at.result ≡ Some k =
    c.number_at.ensures ∙ ap (λ (ps : List (Option ℕ)). number_in ps c.args.child) c.deref.ensures.value ∙ (c.self.invariant.placing c.args.child k).1 there in
    subst (λ (o : Option ℕ). IsSome o) (sym found) refl

pub returns-clause-item : goal.returns-clause-item
returns-clause-item c =
    let there : slice_get c.self.inside.plan.numbers.items c.unwrap.result ≡ Some c.args.child = (c.self.invariant.placing c.args.child c.unwrap.result).0
    (ap (λ (ps : List (Option ℕ)). number_in ps c.args.child) (sym c.deref.ensures.value) ∙ sym c.number_at.ensures ∙ c.unwrap.ensures) in
    subst (λ (z : State). slice_get z.plan.numbers.items c.unwrap.result ≡ Some c.args.child) c.self.view_is there

pub returns-clause-follows : goal.returns-clause-follows
returns-clause-follows c =
    let s = c.args.self.now in
    let (k, at, may) = c.requires in
    let there : slice_get c.self.inside.plan.numbers.items c.unwrap.result ≡ Some c.args.child = (c.self.invariant.placing c.args.child c.unwrap.result).0
    (ap (λ (ps : List (Option ℕ)). number_in ps c.args.child) (sym c.deref.ensures.value) ∙ sym c.number_at.ensures ∙ c.unwrap.ensures) in
    let item = subst (λ (z : State). slice_get z.plan.numbers.items c.unwrap.result ≡ Some c.args.child) c.self.view_is there in
    subst (λ z. may_follow s.plan s.placed z ≡ true) (same_item s.plan k c.unwrap.result c.args.child at item) may

pub returns-clause-front : goal.returns-clause-front
returns-clause-front c = subst (λ (z : State). Follows (may_follow z.plan) [] z.placed) c.self.view_is c.self.invariant.front
