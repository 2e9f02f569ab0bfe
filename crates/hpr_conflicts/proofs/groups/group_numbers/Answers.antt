use Rattle.std.proofs.Common.{◌≡◌, ◌+◌, ◌++◌, ◌∷◌, ◌∙◌, [], ap, sym, subst, take}
use Rattle.std.proofs.lemmas.List.{take_all, take_more}
use Rattle.hpr_graph.specs.declared.conflict.ManyConflict.{ManyConflict}
use Rattle.hpr_conflicts.specs.Private.Keys.{key_of}
use Rattle.hpr_conflicts.specs.Private.Placed.{IsPlaced}
use Rattle.hpr_conflicts.proofs.Numbered.{all_numbers, keyed_more}
use Rattle.hpr_conflicts.proofs.groups.group_numbers.Goals as goal

pub loop-conflict-preserved : goal.loop-conflict-preserved
loop-conflict-preserved c =
    let cs = c.args.conflicts.now in
    let i = c.loop-conflict.conflict-index in
    let conflict = c.conflict-item.result in
    let ks = c.loop-conflict.keys.keys in
    let ns = c.loop-conflict.numbers.items in
    let new = c.place_of.new.keys.keys in
    let n = c.in_ok-number.number in
    let placed : IsPlaced ks (key_of conflict) new n = subst (λ k. IsPlaced ks k new n) c.in_ok-key.ensures c.in_ok-number.ensures in
    let more = keyed_more (take i cs) ks ns c.loop-conflict.invariant conflict new n placed in
    let next : take (i + 1) cs ≡ take i cs ++ conflict ∷ [] = take_more cs i conflict c.loop-conflict-test.true ∙ ap (λ (d : ManyConflict). take i cs ++ d ∷ []) (sym c.conflict-item.is) in
    rw (next, c.in_ok-push.ensures.items) more

pub returns : goal.returns
returns c =
    let cs = c.args.conflicts.now in
    let all = all_numbers (take c.loop-conflict.conflict-index cs) c.loop-conflict.keys.keys c.loop-conflict.numbers.items c.loop-conflict.invariant c.len.result c.len.ensures.len in
    let done : take c.loop-conflict.conflict-index cs ≡ cs = take_all c.loop-conflict.conflict-index cs c.loop-conflict-test.false in
    rw done at all
