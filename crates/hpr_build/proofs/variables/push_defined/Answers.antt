use Rattle.std.proofs.Common.{◌≡◌, ◌∙◌, ℕ, Some, None, Option, List, ◌↔◌, inl, inr, sym, ap}
use Rattle.std.specs.Option.{option_copied}
use Rattle.hpr_paths.specs.Spots.{defined_at}
use Rattle.hpr_build.proofs.variables.push_defined.Goals as goal

same_or_other : (d : Option (List ℕ)) (y x : List ℕ) → d ≡ Some y → (y ≡ x) ↔ (d ≡ Some x)
same_or_other d y x is = ((λ e. is ∙ ap (λ (z : List ℕ). Some z) e), (λ e. cc))

pub returns-in_ok-push_for-in-Some-clause-rows : goal.returns-in_ok-push_for-in-Some-clause-rows
returns-in_ok-push_for-in-Some-clause-rows c = λ i x get p.
    let is : defined_at c.args.succ.now c.args.point ≡ Some c.in-Some.name.now = sym c.defines.ensures ∙ ap option_copied c.in-Some.is in
    let k = same_or_other (defined_at c.args.succ.now c.args.point) c.in-Some.name.now x is in
    let new = c.in_ok-push_for-in-Some.ensures.rows i x get p in (
      (λ h. elim (new.0 h) [ inl was ↦ inl was | inr e ↦ inr (k.0 e.0, e.1) ]),
      (λ h. elim h [ inl was ↦ new.1 (inl was) | inr e ↦ new.1 (inr (k.1 e.0, e.1)) ]),
    )

pub returns-in_ok-push_for-in-Some-clause-once : goal.returns-in_ok-push_for-in-Some-clause-once
returns-in_ok-push_for-in-Some-clause-once c = λ i x get once new. c.in_ok-push_for-in-Some.ensures.once i x get once (λ e. new)

pub returns-in-None-clause-rows : goal.returns-in-None-clause-rows
returns-in-None-clause-rows c = λ i x get p.
    let none : defined_at c.args.succ.now c.args.point ≡ None = sym c.defines.ensures ∙ ap option_copied c.in-None.is in (
      (λ h. inl h),
      (λ h. elim h [ inl was ↦ was | inr e ↦ absurd (let some : None ≡ Some x = sym none ∙ e.0 in cc) ]),
    )
