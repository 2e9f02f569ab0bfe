use Rattle.std.proofs.Common.{◌≡◌, ◌⊎◌, ◌↔◌, ℕ, List, Contains, inl, inr, subst}
use Rattle.hpr_build.proofs.uses.push_point.Goals as goal

pub returns-clause-exact : goal.returns-clause-exact
returns-clause-exact c = λ u.
    let P : List (List ℕ) → Type 0 = λ xs. Contains c.push_names.new.into.items u ↔ (Contains c.args.into.now.items u ⊎ (Contains xs u.name × (c.args.point ≡ u.number))) in
    let new = subst P c.deref.ensures.value (c.in_ok-push_names.ensures.exact u) in
    let same = c.in_ok-used.ensures.same u.name in
    let used = c.in_ok-used_names.ensures.uses u.name in (
      (λ h. elim (new.0 h) [ inl was ↦ inl was | inr k ↦ inr (used.0 (same.0 k.0), k.1) ]),
      (λ h. elim h [ inl was ↦ new.1 (inl was) | inr k ↦ new.1 (inr (same.1 (used.1 k.0), k.1)) ]),
    )
