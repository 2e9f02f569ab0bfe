use Rattle.std.proofs.Common.{◌≡◌, ◌↔◌, ◌⊎◌, ◌+◌, ◌∙◌, ℕ, List, Some, Vec, Global, Contains, take, slice_get, sym, ap, subst, arith}
use Rattle.hpr_graph.proofs.Lists.{read_at}
use Rattle.hpr_paths.specs.Spots.{UsesAt, defined_at}
use Rattle.hpr_reach.specs.Live.{IsLive}
use Rattle.hpr_reach.proofs.Grown.{turn_of_list, taken_whole}
use Rattle.hpr_build.specs.Variables.{points_at}
use Rattle.hpr_build.proofs.initial.push_live.Goals as goal

pub row_at-definitions-requires : goal.row_at-definitions-requires
row_at-definitions-requires c = omega (arith, c.loop-at-test.true, c.deref.ensures.len, c.deref-name-items.ensures.len, c.requires.definition_rows)

pub row_at-users-requires : goal.row_at-users-requires
row_at-users-requires c = omega (arith, c.loop-at-test.true, c.deref-in-loop-at.ensures.len, c.deref-name-items.ensures.len, c.requires.user_rows)

pub is_live-requires-clause-definitions : goal.is_live-requires-clause-definitions
is_live-requires-clause-definitions c =
    let v = c.args.variables.now in
    let k = c.loop-at.at in
    let x = c.name-item.result in
    let here : slice_get v.names.items k ≡ Some x = read_at c.deref-name-items.result.now v.names.items k x c.deref-name-items.ensures.value c.loop-at-test.true c.name-item.is in
    subst (λ (ps : List ℕ). (p : ℕ) → Contains ps p ↔ (defined_at c.args.succ.now p ≡ Some x))
    (ap (λ (rs : List (Vec ℕ Global)). points_at rs k) (sym c.deref.ensures.value) ∙ sym c.row_at-definitions.ensures) (c.requires.definitions k x here).1

pub is_live-requires-clause-users : goal.is_live-requires-clause-users
is_live-requires-clause-users c =
    let v = c.args.variables.now in
    let k = c.loop-at.at in
    let x = c.name-item.result in
    let here : slice_get v.names.items k ≡ Some x = read_at c.deref-name-items.result.now v.names.items k x c.deref-name-items.ensures.value c.loop-at-test.true c.name-item.is in
    subst (λ (ps : List ℕ). (p : ℕ) → Contains ps p ↔ UsesAt c.args.succ.now p x)
    (ap (λ (rs : List (Vec ℕ Global)). points_at rs k) (sym c.deref-in-loop-at.ensures.value) ∙ sym c.row_at-users.ensures) (c.requires.users k x here).1

pub loop-at-preserved : goal.loop-at-preserved
loop-at-preserved c = λ x.
    let xs = c.deref-name-items.result.now in
    let s = c.args.succ.now in
    let k = c.loop-at.at in
    let same = c.deref-name-items.ensures.value in
    let before : Contains c.loop-at.into.items x ↔ (Contains c.args.into.now.items x ⊎ (Contains (take k xs) x × IsLive s x)) =
    subst (λ (ns : List (List ℕ)). Contains c.loop-at.into.items x ↔ (Contains c.args.into.now.items x ⊎ (Contains (take k ns) x × IsLive s x))) (sym same) (c.loop-at.invariant x) in
    subst (λ (ns : List (List ℕ)). Contains c.push_if.new.into.items x ↔ (Contains c.args.into.now.items x ⊎ (Contains (take (k + 1) ns) x × IsLive s x))) same
    (turn_of_list xs k c.name-item.result x (IsLive s) c.in_ok-live.live c.loop-at-test.true c.name-item.is c.in_ok-live.ensures _ _ _ (c.in_ok-push_if.ensures x) before)

pub returns : goal.returns
returns c = λ x.
    let xs = c.deref-name-items.result.now in
    let s = c.args.succ.now in
    let k = c.loop-at.at in
    let same = c.deref-name-items.ensures.value in
    let before : Contains c.loop-at.into.items x ↔ (Contains c.args.into.now.items x ⊎ (Contains (take k xs) x × IsLive s x)) =
    subst (λ (ns : List (List ℕ)). Contains c.loop-at.into.items x ↔ (Contains c.args.into.now.items x ⊎ (Contains (take k ns) x × IsLive s x))) (sym same) (c.loop-at.invariant x) in
    subst (λ (ns : List (List ℕ)). Contains c.loop-at.into.items x ↔ (Contains c.args.into.now.items x ⊎ (Contains ns x × IsLive s x))) same
    (taken_whole xs k x _ _ (IsLive s x) c.loop-at-test.false before)
