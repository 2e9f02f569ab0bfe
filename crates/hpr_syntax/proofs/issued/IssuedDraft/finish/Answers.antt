use Rattle.std.proofs.Common.{◌≤◌, ℕ, All, List, ap, sym, subst, ◌∙◌, []}
use Rattle.std.proofs.lemmas.List.{drop_all}
use Rattle.std.proofs.lemmas.List.Sorted.{All-permutation}
use Rattle.hpr_syntax.specs.Issued.{raised_by}
use Rattle.hpr_syntax.proofs.RaisedInAnyOrder.{raised_in_any_order}
use Rattle.hpr_syntax.proofs.issued.IssuedDraft.finish.Goals as goal

pub raise-requires : goal.raise-requires
raise-requires c =
    let sorted = All-permutation (λ (p : ℕ × ℕ). 1 ≤ p.1) _ _ c.in_ok-sort.ensures.permutation c.self.invariant in
    subst (All (λ (p : ℕ × ℕ). 1 ≤ p.1)) (sym c.deref-author-items.ensures.value) sorted c.loop-author.author-index (0, 0) c.loop-author-test.true

pub returns : goal.returns
returns c =
    let items = c.deref-author-items.result.now in
    let none_left = drop_all c.loop-author.author-index items c.loop-author-test.false in
    sym (ap (λ (ps : List (ℕ × ℕ)). raised_by ps c.loop-author.issued) none_left) ∙ c.loop-author.invariant
    ∙ ap (λ (ps : List (ℕ × ℕ)). raised_by ps []) c.deref-author-items.ensures.value
    ∙ sym (raised_in_any_order _ _ c.self.invariant c.in_ok-sort.ensures.permutation) ∙ c.self.view_is
