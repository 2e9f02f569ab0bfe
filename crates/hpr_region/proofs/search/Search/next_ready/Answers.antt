use Rattle.std.proofs.Common.{◌≡◌, ◌<◌, ◌≤◌, ℕ, false, [], List, Option, Some, IfSome, sym, subst}
use Rattle.hpr_forest.specs.declared.blocks.Blocks.{Blocks}
use Rattle.hpr_forest.specs.declared.pending.Pending.{Pending}
use Rattle.hpr_forest.specs.Choices.{Follows}
use Rattle.hpr_forest.specs.Pending.{IsPending}
use Rattle.hpr_forest.specs.Remaining.{can_of}
use Rattle.hpr_region.specs.Plans.{State, can_by, may_follow}
use Rattle.hpr_region.specs.States.{IsPendingBy}
use Rattle.hpr_region.proofs.search.Search.next_ready.Goals as goal

pub next_ready-requires-clause-front : goal.next_ready-requires-clause-front
next_ready-requires-clause-front c =
    subst (Follows (can_of c.in-Some.choices) []) (sym c.deref-2.ensures.value)
    (subst (λ (o : Option Blocks). Follows (can_by o) [] c.self.inside.items.items) c.in-Some.is c.self.invariant.front)

pub returns-clause-least : goal.returns-clause-least
returns-clause-least c =
    let s = c.self.inside in
    let found = c.next_ready.result in
    let items : IfSome found (λ x. (d : ℕ) → c.args.from ≤ d → d < x → can_of c.in-Some.choices s.items.items d ≡ false) =
    subst (λ (xs : List ℕ). IfSome found (λ x. (d : ℕ) → c.args.from ≤ d → d < x → can_of c.in-Some.choices xs d ≡ false)) c.deref-2.ensures.value c.next_ready.ensures.least in
    let after : IfSome found (λ x. (d : ℕ) → c.args.from ≤ d → d < x → may_follow s.plan s.items.items d ≡ false) =
    subst (λ (o : Option Blocks). IfSome found (λ x. (d : ℕ) → c.args.from ≤ d → d < x → can_by o s.items.items d ≡ false)) (sym c.in-Some.is) items in
    subst (λ (z : State). IfSome found (λ x. (d : ℕ) → c.args.from ≤ d → d < x → may_follow z.plan z.placed d ≡ false)) c.self.view_is after

pub next_ready-requires-clause-pending : goal.next_ready-requires-clause-pending
next_ready-requires-clause-pending c =
    let s = c.self.inside in
    subst (λ (xs : List ℕ). IsPending c.in-Some.choices xs c.in-Some-pending.pending) (sym c.deref-2.ensures.value)
    (subst (λ (p : Option Pending). IsPendingBy (Some c.in-Some.choices) s.items.items p) c.in-Some-pending.is
    (subst (λ (o : Option Blocks). IsPendingBy o s.items.items s.pending) c.in-Some.is c.self.invariant.waits))
