use Rattle.std.proofs.Common.{◌≡◌, ◌⊎◌, ◌↔◌, ℕ, None, Option, Bool, List, Contains, IsTrue, get_or, inl, inr, refl, ◌∙◌, subst, arith}
use Rattle.std.proofs.lemmas.List.{get_or_default}
use Rattle.hpr_build.specs.Flows.{IsCarriedBy, IsFlowBelow}
use Rattle.hpr_build.proofs.UserFlows.{kinds_none, kinds_more, either_same, either_more, not_below}
use Rattle.hpr_build.proofs.flows.push_flows.Goals as goal

pub loop-i-init : goal.loop-i-init
loop-i-init c = record {
  exact = λ f. either_same (c.in_ok-push_if.ensures.exact f) (kinds_none c.args.nest.now c.args.cut.now c.args.carries.now c.args.user c.has.result f c.has.ensures);
  once = λ old nest fresh. c.in_ok-push_if.ensures.once old (λ h. fresh _ h refl);
}

pub loop-i-preserved : goal.loop-i-preserved
loop-i-preserved c =
    let i = c.loop-i.i in
    let w : ℕ = get_or c.args.nest.now i 0 in
    let P : Option (List Bool) → Type 0 = λ r. IsTrue c.is_carried.result ↔ IsCarriedBy r w c.args.user in
    record {
      exact = λ f. either_more (c.in_ok-push_if-2.ensures.exact f) (c.loop-i.invariant.exact f)
          (kinds_more c.args.nest.now c.args.cut.now c.args.carries.now c.args.user c.is_carried.result i f
          (subst P (c.index-carries-i.is ∙ get_or_default c.args.carries.now i _ None (omega (arith, c.requires.carries, c.loop-i-test.true))) c.is_carried.ensures));
      once = λ old nest fresh. c.in_ok-push_if-2.ensures.once (c.loop-i.invariant.once old nest fresh)
          (λ h. elim ((c.loop-i.invariant.exact _).0 h) [
            | inl was ↦ fresh _ was refl
            | inr b ↦ not_below c.args.nest.now c.args.cut.now c.args.carries.now i c.args.user w nest (omega (arith, c.requires.nest, c.loop-i-test.true)) refl b
          ]);
    }

pub returns-clause-exact : goal.returns-clause-exact
returns-clause-exact c = λ f.
    let e : c.loop-i.i ≡ c.args.common = omega (arith, c.loop-i-test.false) in
    subst (λ (n : ℕ). Contains c.loop-i.into.items f ↔ (Contains c.args.into.now.items f ⊎ IsFlowBelow n c.args.nest.now c.args.cut.now c.args.carries.now c.args.user f)) e (c.loop-i.invariant.exact f)
