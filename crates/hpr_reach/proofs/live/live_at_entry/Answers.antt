use Rattle.std.proofs.Common.{ℕ, List, Contains, ◌↔◌, ◌⊎◌, ◌∙◌, sym, subst}
use Rattle.std.proofs.lemmas.Result.{IfOk-weaker}
use Rattle.hpr_reach.specs.Live.{AreUsersOf, IsLive, IsUsedAfterAll}
use Rattle.hpr_reach.proofs.Lives.{both_kinds}
use Rattle.hpr_reach.proofs.live.live_at_entry.Goals as goal
use Rattle.hpr_reach.proofs.live.live_at_entry.Goals.{After-drop-defined-2}

exact : (c : After-drop-defined-2) (x : List ℕ) → Contains c.push_live.new.into.items x ↔ IsLive c.args.succ.now x
exact c x =
    let s = c.args.succ.now in
    let defined = c.in_ok-defined.defined.items in
    let firsts : Contains c.in_ok-live.live.items x ↔ (IsUsedAfterAll s x × (¬ Contains defined x)) = rw c.as_slice.ensures.value at (c.in_ok-live.ensures x) in
    let boths : Contains c.push_live.new.into.items x ↔ (Contains c.in_ok-live.live.items x ⊎ (Contains defined x × IsLive s x)) = rw
    c.as_slice-3.ensures.value at (c.in_ok-push_live.ensures x) in
    both_kinds s x defined c.in_ok-live.live.items c.push_live.new.into.items (c.in_ok-defined.ensures.exact x) firsts boths

pub returns-clause-sound : goal.returns-clause-sound
returns-clause-sound c = IfOk-weaker c.in_order.result _ _ (λ v same x h. (exact c x).0 ((same x).0 h)) c.in_order.ensures.same

pub returns-clause-complete : goal.returns-clause-complete
returns-clause-complete c = IfOk-weaker c.in_order.result _ _ (λ v same x h. (same x).1 ((exact c x).1 h)) c.in_order.ensures.same

pub push_live-requires-clause-users : goal.push_live-requires-clause-users
push_live-requires-clause-users c = subst (λ (ns : List (List ℕ)). AreUsersOf c.args.succ.now ns c.in_ok-users.users)
    (c.as_slice-2.ensures.value ∙ sym c.as_slice-3.ensures.value) c.in_ok-users.ensures
