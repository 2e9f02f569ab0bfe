use Rattle.std.proofs.Common.{◌≡◌, ◌<◌, ◌∙◌, ℕ, List, Some, length, get_or, slice_get, sym, ap}
use Rattle.std.proofs.lemmas.Option.{slice_get-get_or}
use Rattle.hpr_reach.specs.Live.{IsLive}
use Rattle.hpr_reach.proofs.Grown.{turn_of_list, taken_whole}
use Rattle.hpr_reach.proofs.live.push_live.Goals as goal

read : (xs : List (List ℕ)) (i : ℕ) (x : List ℕ) → i < length xs → x ≡ get_or xs i x → slice_get xs i ≡ Some x
read xs i x l is = slice_get-get_or xs i x l ∙ ap (λ (y : List ℕ). Some y) (sym is)

pub is_live-requires-clause-at : goal.is_live-requires-clause-at
is_live-requires-clause-at c = (c.requires.users c.loop-at.at c.index-names-at.result
    (read c.args.names.now c.loop-at.at c.index-names-at.result c.loop-at-test.true c.index-names-at.is)).0

pub is_live-requires-clause-users : goal.is_live-requires-clause-users
is_live-requires-clause-users c = (c.requires.users c.loop-at.at c.index-names-at.result
    (read c.args.names.now c.loop-at.at c.index-names-at.result c.loop-at-test.true c.index-names-at.is)).1

pub loop-at-preserved : goal.loop-at-preserved
loop-at-preserved c = λ x.
    turn_of_list c.args.names.now c.loop-at.at c.index-names-at.result x (IsLive c.args.succ.now) c.in_ok-is_live.field-0 c.loop-at-test.true
    c.index-names-at.is c.in_ok-is_live.ensures _ _ _ (c.in_ok-push_if.ensures x) (c.loop-at.invariant x)

pub returns : goal.returns
returns c = λ x. taken_whole c.args.names.now c.loop-at.at x _ _ (IsLive c.args.succ.now x) c.loop-at-test.false (c.loop-at.invariant x)
