-- The flow edges for a name that no part defines: those from its initial definition.
use Rattle.std.proofs.Common.{◌≡◌, ℕ, ◌+◌, Bool, List, [], map, Contains, ◌↔◌, inl, inr, refl, sym, ap, ◌∙◌, subst}
use Rattle.hpr_terms.proofs.Facts.{contains_at}
use Rattle.hpr_syntax.specs.Tree.{Tree}
use Rattle.hpr_search.specs.Marks.{IsMarked}
use Rattle.hpr_paths.specs.Successors.{spots}
use Rattle.hpr_reach.specs.Live.{IsDefined}
use Rattle.hpr_graph.specs.declared.link.Link.{Link}
use Rattle.hpr_graph.specs.Graphs.{IsOnce}
use Rattle.hpr_build.specs.declared.flows.Flow.{Flow}
use Rattle.hpr_build.specs.declared.flows.FlowKind.TheVariants.{Independent}
use Rattle.hpr_build.specs.declared.pushes.NewLink.{NewLink}
use Rattle.hpr_build.specs.declared.tables.Variable.{Variable}
use Rattle.hpr_build.specs.Flows.{IsFlowAt}
use Rattle.hpr_build.specs.Links.{exit_of, first_init, IsSourceAt, IsFlowOf}
use Rattle.hpr_build.specs.NewLinks.{flow_link, IsInitialAt, FlowsFrom, FlowsOf}
use Rattle.hpr_build.specs.Stages.{IsVariable}
use Rattle.hpr_build.specs.Variables.{IsFreeRow}
use Rattle.hpr_build.proofs.FlowFamily.{flow_of_source, flows_of_links, links_of_flows, flow_links_once}
use Rattle.hpr_build.proofs.InitialNames.{undefined}
use Rattle.hpr_build.proofs.UserFlows.{flows_of_row}

module _ (t : Tree) (inits : List (List ℕ)) (v : Variable) (var : IsVariable t v) (none : v.definitions.now ≡ []) where
  abbrev x : List ℕ
  x = v.name.now

  not_defined : ¬ IsDefined (spots t) x
  not_defined = undefined (spots t) x v.definitions.now var.definitions none

  -- where the program doesn't take it from before, there is none
  pub no_flows : ¬ Contains inits x → (to : ℕ) (l : Link) → ¬ FlowsOf t inits x to l
  no_flows out to l (d, u, source, target, flowing) = elim source [
    | inl (at, is) ↦ not_defined (d, is)
    | inr (at, (k, get, is)) ↦ out (contains_at inits k x get)
  ]

  module _ (once : IsOnce inits) (number : ℕ) (first : IsInitialAt t inits x 0 number) where
    only_source : (d n : ℕ) → IsSourceAt t inits x d n → (n ≡ number) × (d ≡ 0)
    only_source d n source = elim source [
      | inl (at, is) ↦ absurd (not_defined (d, is))
      | inr (at, (k, get, is)) ↦
          (let (zero_is, (j, there, number_is)) = first in
          let same : k ≡ j = once k j x get there in
          (is ∙ ap (λ (m : ℕ). first_init t + m) same ∙ sym number_is, at))
    ]

    from_first : (to : ℕ) (l : Link) → FlowsOf t inits x to l → FlowsFrom t x 0 number to l
    from_first to l (d, u, source, target, flowing) =
        let (from, at) = only_source d l.from source in
        (from, (u, target, subst (λ (e : ℕ). IsFlowOf (spots t) x e u l.kind) at flowing))

    module _ (row : List Bool) (free : IsFreeRow (spots t) row) (flows : List Flow)
        (exact : (f : Flow) → Contains flows f ↔ ((f.kind ≡ Independent) × Contains v.users.now f.to × IsMarked row f.to)) where
      flowing_at : (f : Flow) → Contains flows f ↔ (Contains v.users.now f.to × IsFlowAt (spots t) x 0 f.to f.kind)
      flowing_at f =
          let are = flows_of_row (spots t) x 0 refl row v.users.now (free x not_defined) f in
          ((λ h. are.0 ((exact f).0 h)), (λ h. (exact f).1 (are.1 h)))

      abbrev pub Made : List NewLink
      Made = map (flow_link (exit_of t) v.final_number number) flows

      pub free_made : (links : List NewLink) → links ≡ Made → (n : NewLink) → Contains links n ↔ FlowsOf t inits x n.to n.link
      free_made links is n =
          subst (λ (ns : List NewLink). Contains ns n ↔ FlowsOf t inits x n.to n.link) (sym is) (
            (λ h. flow_of_source t inits x 0 number n.to n.link (inr first) (flows_of_links t v var (spots t) refl 0 number flows flowing_at n.to n.link h)),
            (λ h. links_of_flows t v var (spots t) refl 0 number flows flowing_at n.to n.link (from_first n.to n.link h)),
          )

      pub free_once : (links : List NewLink) → links ≡ Made → IsOnce flows → IsOnce links
      free_once links is each = subst (λ (ns : List NewLink). IsOnce ns) (sym is) (flow_links_once t v var (spots t) refl 0 number flows flowing_at each)
