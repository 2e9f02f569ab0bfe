use Rattle.std.proofs.Common.{List, ℕ, ◌++◌, take, sym, ap, ap₂, ◌∙◌}
use Rattle.hpr_tagging.proofs.Steps.{changed_turn, changed_over}
use Rattle.hpr_tagging.proofs.texts.changed.Goals as goal

pub loop-change-preserved : goal.loop-change-preserved
loop-change-preserved c =
    let l = c.loop-change in
    let u = c.front-unchanged.ensures ∙ ap₂ (λ (k : ℕ) (x : List ℕ). take k x) c.saturating_sub.ensures c.behind.ensures in
    changed_turn c.args.author c.args.bytes.now l.at c.args.changes.now l.change-index _ c.front-unchanged.result.now l.out.items c.put_change.new.out.items
    c.loop-change-test.true u c.in_ok-put_change.ensures
    ∙ l.invariant

pub returns : goal.returns
returns c =
    let l = c.loop-change in
    c.in_ok-push_bytes.ensures
    ∙ ap (λ (x : List ℕ). l.out.items ++ x)
    (c.behind-2.ensures ∙ sym (changed_over c.args.author c.args.bytes.now l.at c.args.changes.now l.change-index c.loop-change-test.false))
    ∙ l.invariant
