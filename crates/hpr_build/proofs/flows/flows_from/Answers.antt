use Rattle.std.proofs.Common.{◌≡◌, ◌↔◌, ℕ, List, [], map, length, Contains, get_or, sym, ap, ◌∙◌, subst, arith}
use Rattle.std.proofs.lemmas.Bool.{eqb-true}
use Rattle.std.proofs.lemmas.List.{nil_from_length}
use Rattle.std.proofs.lemmas.List.Elements.{Contains-get_or}
use Rattle.std.proofs.lemmas.Result.{IfOk-weaker}
use Rattle.hpr_search.specs.Marks.{IsMarked}
use Rattle.hpr_search.proofs.Marked.{marked_within}
use Rattle.hpr_paths.specs.Spots.{nest_at}
use Rattle.hpr_graph.specs.Graphs.{IsOnce}
use Rattle.hpr_build.specs.declared.flows.Flow.{Flow}
use Rattle.hpr_build.specs.Flows.{IsFlowAt}
use Rattle.hpr_build.proofs.UserFlows.{flows_to_reached, plain, plain_exact, plain_once}
use Rattle.hpr_build.proofs.flows.flows_from.Goals as goal

pub flows_to-requires-clause-users : goal.flows_to-requires-clause-users
flows_to-requires-clause-users c = λ k d l.
    let q : ℕ = get_or c.deref-2.result.now k d in
    let there : Contains c.in_ok-reached.reached.items q = subst (λ (xs : List ℕ). Contains xs q) c.deref-2.ensures.value (Contains-get_or c.deref-2.result.now k d l) in
    let w = marked_within c.in_ok-all.all q ((c.in_ok-reached.ensures.exact q).0 there).0 in
    omega (arith, w, c.in_ok-all.ensures.size)

pub returns-clause-exact : goal.returns-clause-exact
returns-clause-exact c = IfOk-weaker c.flows_to.result _ _ (λ flows exact f.
    flows_to_reached c.args.succ.now c.args.name.now c.args.from c.in_ok-all.all c.args.users.now c.deref-2.result.now f _ c.in_ok-all.ensures.exact
    (subst (λ (xs : List ℕ). (p : ℕ) → Contains xs p ↔ (IsMarked c.in_ok-all.all p × IsMarked c.args.users.now p)) (sym c.deref-2.ensures.value) c.in_ok-reached.ensures.exact) (exact f)) c.flows_to.ensures.exact

pub returns-then-is_empty-clause-exact : goal.returns-then-is_empty-clause-exact
returns-then-is_empty-clause-exact c =
    let s = c.args.succ.now in
    let top : nest_at s c.args.from ≡ [] = sym c.nest.ensures.nest ∙ nil_from_length c.nest.result.now (eqb-true (length c.nest.result.now) 0 (sym c.is_empty.ensures ∙ c.if-is_empty.true)) in
    IfOk-weaker c.plain_flows.result _ _ (λ flows made f.
    subst (λ (fs : List Flow). Contains fs f ↔ (IsMarked c.args.users.now f.to × IsFlowAt s c.args.name.now c.args.from f.to f.kind)) (sym (made ∙ ap (λ (us : List ℕ). map plain us) c.deref.ensures.value))
    (plain_exact s c.args.name.now c.args.from top c.in_ok-all.all c.args.users.now c.in_ok-reached.reached.items c.in_ok-all.ensures.exact c.in_ok-reached.ensures.exact f)) c.plain_flows.ensures

pub returns-then-is_empty-clause-once : goal.returns-then-is_empty-clause-once
returns-then-is_empty-clause-once c = IfOk-weaker c.plain_flows.result _ _ (λ flows made.
    subst (λ (fs : List Flow). IsOnce fs) (sym (made ∙ ap (λ (us : List ℕ). map plain us) c.deref.ensures.value)) (plain_once c.in_ok-reached.reached.items c.in_ok-reached.ensures.once)) c.plain_flows.ensures

pub returns-clause-once : goal.returns-clause-once
returns-clause-once c = IfOk-weaker c.flows_to.result _ _ (λ flows once.
    once (subst (λ (us : List ℕ). IsOnce us) (sym c.deref-2.ensures.value) c.in_ok-reached.ensures.once)) c.flows_to.ensures.once
