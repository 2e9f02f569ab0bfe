use Rattle.std.proofs.Common.{◌≡◌, Option, None, List, [], ℕ, Some, slice_get, false, true, refl, sym, ap, ◌∙◌, subst}
use Rattle.hpr_graph.specs.Moves.{number_at as number_in}
use Rattle.hpr_forest.specs.Choices.{Follows}
use Rattle.hpr_order.proofs.Linking.{false_is, true_is}
use Rattle.hpr_order.proofs.ListFacts.{get_within}
use Rattle.hpr_region.specs.Plans.{State, may_follow}
use Rattle.hpr_region.proofs.Exact.{begun_of_ready, is_true, ready_of_begun, same_item}
use Rattle.hpr_region.proofs.search.Search.ready.Goals as goal

pub returns-in-None-clause-exact : goal.returns-in-None-clause-exact
returns-in-None-clause-exact c = λ g rank is. (
  (λ t. absurd (false_is false refl t)),
  (λ begun.
      let front = subst (λ (z : State). Follows (may_follow z.plan) [] z.placed) c.self.view_is c.self.invariant.front in
      let (k, at, may) = ready_of_begun g rank c.args.self.now c.args.child is front begun in
      let at' : slice_get c.self.inside.plan.numbers.items k ≡ Some c.args.child = subst (λ (z : State). slice_get z.plan.numbers.items k ≡ Some c.args.child) (sym c.self.view_is) at in
      let e : None ≡ Some k = sym c.in-None.is ∙ c.number_at.ensures ∙ ap (λ (ps : List (Option ℕ)). number_in ps c.args.child) c.deref.ensures.value ∙ (c.self.invariant.placing c.args.child k).1 at' in
      absurd cc),
)

pub returns-in-Some-clause-ready : goal.returns-in-Some-clause-ready
returns-in-Some-clause-ready c =
    let at : slice_get c.self.inside.plan.numbers.items c.in-Some.item ≡ Some c.args.child = (c.self.invariant.placing c.args.child c.in-Some.item).0
    (ap (λ (ps : List (Option ℕ)). number_in ps c.args.child) (sym c.deref.ensures.value) ∙ sym c.number_at.ensures ∙ c.in-Some.is) in
    let at' = subst (λ (z : State). slice_get z.plan.numbers.items c.in-Some.item ≡ Some c.args.child) c.self.view_is at in (
      (λ t. (c.in-Some.item, at', sym c.may_follow.ensures ∙ is_true c.may_follow.result t)),
      (λ (k, atk, may). true_is c.may_follow.result (c.may_follow.ensures ∙ subst (λ z. may_follow c.args.self.now.plan c.args.self.now.placed z ≡ true) (same_item c.args.self.now.plan k c.in-Some.item c.args.child atk at') may)),
    )

pub returns-in-Some-clause-exact : goal.returns-in-Some-clause-exact
returns-in-Some-clause-exact c = λ g rank is.
    let at : slice_get c.self.inside.plan.numbers.items c.in-Some.item ≡ Some c.args.child = (c.self.invariant.placing c.args.child c.in-Some.item).0
    (ap (λ (ps : List (Option ℕ)). number_in ps c.args.child) (sym c.deref.ensures.value) ∙ sym c.number_at.ensures ∙ c.in-Some.is) in
    let at' = subst (λ (z : State). slice_get z.plan.numbers.items c.in-Some.item ≡ Some c.args.child) c.self.view_is at in
    let front = subst (λ (z : State). Follows (may_follow z.plan) [] z.placed) c.self.view_is c.self.invariant.front in (
      (λ t. begun_of_ready g rank c.args.self.now c.args.child is front (c.in-Some.item, at', sym c.may_follow.ensures ∙ is_true c.may_follow.result t)),
      (λ begun.
          let (k, atk, may) = ready_of_begun g rank c.args.self.now c.args.child is front begun in
          true_is c.may_follow.result (c.may_follow.ensures ∙ subst (λ z. may_follow c.args.self.now.plan c.args.self.now.placed z ≡ true) (same_item c.args.self.now.plan k c.in-Some.item c.args.child atk at') may)),
    )

pub may_follow-requires : goal.may_follow-requires
may_follow-requires c =
    let at : slice_get c.self.inside.plan.numbers.items c.in-Some.item ≡ Some c.args.child = (c.self.invariant.placing c.args.child c.in-Some.item).0
    (ap (λ (ps : List (Option ℕ)). number_in ps c.args.child) (sym c.deref.ensures.value) ∙ sym c.number_at.ensures ∙ c.in-Some.is) in
    get_within c.args.self.now.plan.numbers.items c.in-Some.item c.args.child (subst (λ (z : State). slice_get z.plan.numbers.items c.in-Some.item ≡ Some c.args.child) c.self.view_is at)
