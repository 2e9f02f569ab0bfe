-- The sources of the flow edges into a use, and that they are the definitions that reach it.
use Rattle.std.proofs.Common.{◌≡◌, ℕ, ◌+◌, ◌<◌, Bool, List, [], Some, length, take, get_or, Contains, IsTrue, ◌⊎◌, ◌↔◌, inl, inr, sym, ap, ◌∙◌, subst, arith}
use Rattle.std.proofs.lemmas.Option.{slice_get_within}
use Rattle.hpr_terms.proofs.Facts.{taken_item, in_none}
use Rattle.hpr_syntax.specs.Tree.{Tree}
use Rattle.hpr_search.specs.Marks.{IsMarked}
use Rattle.hpr_paths.specs.Spots.{UsesAt, defined_at}
use Rattle.hpr_paths.specs.Successors.{spots}
use Rattle.hpr_reach.specs.Reaches.{Reaches}
use Rattle.hpr_graph.specs.declared.link.LinkKind.{LinkKind}
use Rattle.hpr_graph.specs.declared.link.Link.{Link}
use Rattle.hpr_graph.specs.Numbered.{Numbered, HasLink}
use Rattle.hpr_build.specs.declared.flows.FlowKind.{FlowKind}
use Rattle.hpr_build.specs.declared.flows.FlowKind.TheVariants as flow
use Rattle.hpr_build.specs.declared.tables.Variable.{Variable}
use Rattle.hpr_build.specs.Flows.{IsFlowAt}
use Rattle.hpr_build.specs.Links.{vertices_of, exit_of, IsTargetAt, IsControlLink, IsFlowLink}
use Rattle.hpr_build.specs.NewLinks.{link_kind, target_of, OrdersOf}
use Rattle.hpr_build.specs.Reaching.{IsFlowKind, HasFlowFrom, HasFlows}
use Rattle.hpr_build.specs.Stages.{IsVariable}
use Rattle.hpr_build.proofs.BridgeFlow.{some_kind}
use Rattle.hpr_build.proofs.BridgeNumbers.{source_once, target_once}
use Rattle.hpr_build.proofs.ControlFamily.{control_kind, count_vertices}
use Rattle.hpr_build.proofs.FlowFamily.{flow_of_kind, kind_of_flow}
use Rattle.hpr_build.proofs.Families.{SomeOf}
use Rattle.hpr_build.proofs.TargetNumbers.{target_of_number}

-- no definition is the source of one of no links
pub from_none : (definers : List Bool) (sources : List ℕ) → sources ≡ [] → (p : ℕ) → Contains sources p ↔ (IsMarked definers p × HasFlowFrom [] p)
from_none definers sources none p = (
  (λ h. absurd (in_none p (subst (λ (xs : List ℕ). Contains xs p) none h))),
  (λ (h, (l, has, is, from)). absurd (in_none l has)),
)

module _ (definers : List Bool) (links : List Link) (i : ℕ) (l : Link) (here : i < length links) (is : l ≡ get_or links i l) where
  -- a flow edge among one link more
  flow_more : (p : ℕ) → HasFlowFrom (take (i + 1) links) p ↔ (HasFlowFrom (take i links) p ⊎ (IsFlowKind l.kind × (l.from ≡ p)))
  flow_more p = (
    (λ (m, has, kind, from). elim ((taken_item links i l m here is).0 has) [
      | inl before ↦ inl (m, before, kind, from)
      | inr e ↦ inr (subst (λ (n : Link). IsFlowKind n.kind) (sym e) kind, ap (λ (n : Link). n.from) e ∙ from)
    ]),
    (λ h. elim h [
      | inl (m, before, kind, from) ↦ (m, (taken_item links i l m here is).1 (inl before), kind, from)
      | inr (kind, from) ↦ (l, (taken_item links i l l here is).1 (inr (λ _. l)), kind, from)
    ]),
  )

  -- the sources among one link more
  pub from_more : (sources sources' : List ℕ) (test : Bool) → IsTrue test ↔ (IsFlowKind l.kind × IsMarked definers l.from)
      → ((p : ℕ) → Contains sources p ↔ (IsMarked definers p × HasFlowFrom (take i links) p))
      → ((p : ℕ) → Contains sources' p ↔ (Contains sources p ⊎ (IsTrue test × (l.from ≡ p)))) → (p : ℕ)
      → Contains sources' p ↔ (IsMarked definers p × HasFlowFrom (take (i + 1) links) p)
  from_more sources sources' test tests before new p = (
    (λ h. elim ((new p).0 h) [
      | inl was ↦ (let (m, f) = (before p).0 was in (m, (flow_more p).1 (inl f)))
      | inr (t, e) ↦ (let (kind, m) = tests.0 t in (subst (λ (n : ℕ). IsMarked definers n) e m, (flow_more p).1 (inr (kind, e))))
    ]),
    (λ (m, f). elim ((flow_more p).0 f) [
      | inl was ↦ (new p).1 (inl ((before p).1 (m, was)))
      | inr (kind, e) ↦ (new p).1 (inr (tests.1 (kind, subst (λ (n : ℕ). IsMarked definers n) (sym e) m), e))
    ]),
  )

kind_flows : (k : FlowKind) → IsFlowKind (link_kind k)
kind_flows flow.Independent = tt
kind_flows (flow.Carried w) = tt

module _ (t : Tree) (inits : List (List ℕ)) where
  -- the target of a flow edge is a vertex
  pub target_within : (x : List ℕ) (u w : ℕ) → IsTargetAt t x u w → w < length (vertices_of t inits)
  target_within x u w (inl (is, low, uses)) = omega (arith, is, low, count_vertices t inits)
  target_within x u w (inr (is, (k, get, at))) = let k_low = slice_get_within t.finals k x get in omega (arith, at, k_low, count_vertices t inits)

  -- order edges change no flow edge
  pub flows_kept : (names : List (List ℕ)) (g g' : Numbered) → HasFlows t inits g → ((to : ℕ) (l : Link) → HasLink g' to l ↔ (HasLink g to l ⊎ SomeOf names (λ x. OrdersOf t x to l))) → HasFlows t inits g'
  flows_kept names g g' flows added to l kind = (
    (λ h. elim ((added to l).0 h) [
      | inl was ↦ (flows to l kind).0 was
      | inr (x, has, (u, o)) ↦ absurd (subst (λ (k : LinkKind). IsFlowKind k) o.1 kind)
    ]),
    (λ f. (added to l).1 (inl ((flows to l kind).1 f))),
  )

  -- control and flow edges have the flow edges
  pub flows_put : (g : Numbered) → ((to : ℕ) (l : Link) → HasLink g to l ↔ (IsControlLink t inits to l ⊎ IsFlowLink t inits to l)) → HasFlows t inits g
  flows_put g exact to l kind = (
    (λ h. elim ((exact to l).0 h) [
      | inl c ↦ absurd (subst (λ (k : LinkKind). IsFlowKind k) (control_kind t inits to l c).1 kind)
      | inr f ↦ f
    ]),
    (λ f. (exact to l).1 (inr f)),
  )

  module _ (v : Variable) (var : IsVariable t v) (u to : ℕ) (uses : UsesAt (spots t) u v.name.now) (is : to ≡ target_of (exit_of t) v.final_number u) where
    abbrev x : List ℕ
    x = v.name.now

    abbrev target : IsTargetAt t x u to
    target = target_of_number t v var u to uses is

    -- the definitions from which a flow edge goes to a use are those that reach it
    module _ (links : List Link) (flows : (l : Link) → IsFlowKind l.kind → Contains links l ↔ IsFlowLink t inits to l) (p : ℕ) (has : Contains v.definitions.now p) where
      defined : defined_at (spots t) p ≡ Some x
      defined = (var.definitions p).0 has

      reaches : HasFlowFrom links p → Reaches (spots t) x [] p u
      reaches (l, there, kind, from) =
          let (y, d, w, source, reads, flowing) = (flows l kind).0 there in
          let (name, point) = source_once t inits x y p d l.from (inl (from, defined)) source in
          let same_use : u ≡ w = target_once t x y u w to target reads in
          let (k, of_kind, at) = kind_of_flow (spots t) y d w l.kind flowing in
          let at_x : IsFlowAt (spots t) x d w k = subst (λ (z : List ℕ). IsFlowAt (spots t) z d w k) (sym name) at in
          let at_p : IsFlowAt (spots t) x p w k = subst (λ (n : ℕ). IsFlowAt (spots t) x n w k) (sym point) at_x in
          (some_kind (spots t) x p u).1 (k, subst (λ (n : ℕ). IsFlowAt (spots t) x p n k) (sym same_use) at_p)

      flows_from : Reaches (spots t) x [] p u → HasFlowFrom links p
      flows_from r =
          let (k, at) = (some_kind (spots t) x p u).0 r in
          let l : Link = record { from = p; kind = link_kind k } in
          (l, (flows l (kind_flows k)).1 (x, p, u, inl (λ _. p, defined), target, flow_of_kind (spots t) x p u k at), kind_flows k, λ _. p)

    pub reaching_sources : (links : List Link) → ((l : Link) → IsFlowKind l.kind → Contains links l ↔ IsFlowLink t inits to l) → (definers : List Bool) → ((p : ℕ) → IsMarked definers p ↔ Contains v.definitions.now p)
        → (row : List ℕ) → ((p : ℕ) → Contains row p ↔ (IsMarked definers p × HasFlowFrom links p)) → (p : ℕ) → Contains row p ↔ (Contains v.definitions.now p × Reaches (spots t) x [] p u)
    reaching_sources links flows definers marks row exact p = (
      (λ h. (let (m, f) = (exact p).0 h in let has = (marks p).0 m in (has, reaches links flows p has f))),
      (λ (has, r). (exact p).1 ((marks p).1 has, flows_from links flows p has r)),
    )
