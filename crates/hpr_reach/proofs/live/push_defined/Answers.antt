use Rattle.std.proofs.Common.{◌≡◌, ◌∙◌, ℕ, Some, List, ◌↔◌, inl, inr, refl, sym, ap}
use Rattle.std.specs.Option.{option_copied}
use Rattle.std.proofs.lemmas.Result.{on_ok_weaker}
use Rattle.hpr_paths.specs.Spots.{defined_at}
use Rattle.hpr_reach.proofs.live.push_defined.Goals as goal

defined_same : (d : Rattle.std.specs.Prelude.Option (List ℕ)) (y x : List ℕ) → d ≡ Some y → (y ≡ x) ↔ (d ≡ Some x)
defined_same d y x is = ((λ e. is ∙ ap Some e), (λ e. cc))

pub returns-in-Some : goal.returns-in-Some
returns-in-Some c =
    let is : defined_at c.args.succ.now c.args.point ≡ Some c.in-Some.name.now = sym c.defines.ensures ∙ ap option_copied c.in-Some.is in
    on_ok_weaker c.push_if.result (λ h x.
    let k = defined_same (defined_at c.args.succ.now c.args.point) c.in-Some.name.now x is in (
      (λ t. elim ((h x).0 t) [ inl o ↦ inl o | inr e ↦ inr (k.0 e.1) ]),
      (λ t. elim t [ inl o ↦ (h x).1 (inl o) | inr e ↦ (h x).1 (inr (refl, k.1 e)) ]),
    )) c.push_if.ensures
