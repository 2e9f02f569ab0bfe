use Rattle.std.proofs.Common.{◌≡◌, ◌↔◌, ℕ, List, Contains, get_or, inl, inr, sym, ap, subst, arith}
use Rattle.std.proofs.lemmas.List.{get_or_default, take_all}
use Rattle.hpr_terms.proofs.Facts.{taken_item}
use Rattle.hpr_search.specs.Marks.{IsMarked}
use Rattle.hpr_graph.proofs.Lists.{not_before}
use Rattle.hpr_build.specs.declared.flows.Flow.{Flow}
use Rattle.hpr_build.specs.declared.flows.FlowKind.TheVariants.{Independent}
use Rattle.hpr_build.proofs.flows.enter_flows.Goals as goal

pub loop-user-preserved : goal.loop-user-preserved
loop-user-preserved c =
    let us = c.args.users.now in
    let k = c.loop-user.user-index in
    let u : ℕ = get_or us k 0 in
    let is = get_or_default us k 0 u c.loop-user-test.true in
    record {
      exact = λ f.
          let more = taken_item us k u f.to c.loop-user-test.true is in
          let new = c.in_ok-push_if.ensures.exact f in (
            (λ h. elim (new.0 h) [
              | inl was ↦ (let (kind, t, m) = (c.loop-user.invariant.exact f).0 was in (kind, more.1 (inl t), m))
              | inr (t, e) ↦
                  (let to : u ≡ f.to = ap (λ (g : Flow). g.to) e in
                  (sym (ap (λ (g : Flow). g.kind) e), more.1 (inr to), subst (IsMarked c.args.row.now) to (c.has.ensures.0 t)))
            ]),
            (λ (kind, t, m). elim (more.0 t) [
              | inl was ↦ new.1 (inl ((c.loop-user.invariant.exact f).1 (kind, was, m)))
              | inr to ↦ new.1 (inr (c.has.ensures.1 (subst (IsMarked c.args.row.now) (sym to) m), λ i. record { to = to i; kind = sym kind i }))
            ]),
          );
      once = λ once. c.in_ok-push_if.ensures.once (c.loop-user.invariant.once once)
          (λ h. not_before us k u once c.loop-user-test.true is ((c.loop-user.invariant.exact _).0 h).1);
    }

pub returns-clause-exact : goal.returns-clause-exact
returns-clause-exact c = λ f.
    subst (λ (us : List ℕ). Contains c.loop-user.flows.items f ↔ ((f.kind ≡ Independent) × Contains us f.to × IsMarked c.args.row.now f.to))
    (take_all c.loop-user.user-index c.args.users.now (omega (arith, c.loop-user-test.false))) (c.loop-user.invariant.exact f)
