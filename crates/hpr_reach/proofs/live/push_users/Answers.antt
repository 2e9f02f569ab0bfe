use Rattle.std.proofs.Common.{◌≡◌, ◌⊎◌, ◌↔◌, ℕ, List, Contains, inl, inr, sym, subst, arith}
use Rattle.std.proofs.lemmas.List.{take_all}
use Rattle.hpr_search.specs.Rows.{numbers_at}
use Rattle.hpr_paths.specs.Spots.{UsesAt}
use Rattle.hpr_reach.proofs.Grown.{turn_used}
use Rattle.hpr_reach.proofs.live.push_users.Goals as goal

pub loop-name-preserved : goal.loop-name-preserved
loop-name-preserved c = record {
  count = omega (arith, c.in_ok-push_for.ensures.count, c.loop-name.invariant.count);
  rows = λ i x get p. turn_used c.deref-name-items.result.now c.loop-name.name-index c.name-item.result x _ _ _ _ c.loop-name-test.true c.name-item.is
      (c.in_ok-push_for.ensures.rows i x get p) (c.loop-name.invariant.rows i x get p);
}

pub returns-clause-rows : goal.returns-clause-rows
returns-clause-rows c = λ i x get p.
    let items = c.deref-name-items.result.now in
    let point = c.args.point in
    let P : List (List ℕ) → Type 0 = λ xs. Contains (numbers_at c.loop-name.rows i) p ↔
    (Contains (numbers_at c.args.rows.now i) p ⊎ (Contains xs x × (point ≡ p))) in
    let whole = subst P (take_all c.loop-name.name-index items (omega (arith, c.loop-name-test.false))) (c.loop-name.invariant.rows i x get p) in
    let uses = subst (λ (xs : List (List ℕ)). Contains xs x ↔ UsesAt c.args.succ.now point x) (sym c.deref-name-items.ensures.value)
    (c.in_ok-used.ensures.uses x) in (
      (λ h. elim (whole.0 h) [ inl was ↦ inl was | inr (has, is) ↦ inr (uses.0 has, is) ]),
      (λ h. elim h [ inl was ↦ whole.1 (inl was) | inr (used, is) ↦ whole.1 (inr (uses.1 used, is)) ]),
    )
