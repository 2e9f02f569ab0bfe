use Rattle.std.proofs.Common.{◌≡◌, ◌∙◌, [], ◌∷◌, ap, sym, arith, length, length-append}
use Rattle.std.specs.FinMap.{insert}
use Rattle.hpr_run.proofs.States.{onto, onto_empty, onto_last}
use Rattle.hpr_run.proofs.state.State.copy.Goals as goal

pub loop-name-init : goal.loop-name-init
loop-name-init c =
    let given = c.into_iter-name-iterator.ensures.into_iter_gives in
    let all : c.into_iter-name-iterator.result.iter ≡ c.self.inside.values.entries = (λ k. (given k).iter) ∙ c.rev-name-items.ensures.source ∙ c.iter.ensures.rest in
    (λ k. onto (all k) (c.new-copy.ensures k)) ∙ onto_empty c.self.inside.values.entries ∙ c.self.view_is

pub loop-name-preserved : goal.loop-name-preserved
loop-name-preserved c =
    let rest = c.next.new.self.iter in
    let name = c.in_ok-copy.ensures in
    let value = c.in_ok-copy-2.ensures in
    ap (onto rest) (c.in_ok-put.ensures.ok ∙ (λ k. insert c.loop-name.copy (name k) (value k)))
    ∙ sym (onto_last rest (c.in-Some.name.now, c.in-Some.value.now) c.loop-name.copy)
    ∙ ap (λ r. onto r c.loop-name.copy) (sym c.in-Some.ensures.steps) ∙ c.loop-name.invariant

pub loop-name-smaller : goal.loop-name-smaller
loop-name-smaller c =
    let all = ap length c.in-Some.ensures.steps ∙ length-append c.next.new.self.iter ((c.in-Some.name.now, c.in-Some.value.now) ∷ []) in
    omega (arith, all)

pub returns : goal.returns
returns c = ap (λ r. onto r c.loop-name.copy) (sym c.in-None.ensures.steps.0) ∙ c.loop-name.invariant
