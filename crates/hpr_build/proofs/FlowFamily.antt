-- The flow links by number.
use Rattle.std.proofs.Common.{◌≡◌, ℕ, ◌+◌, ◌<◌, List, [], ◌∷◌, ◌++◌, Some, map, Contains, length, slice_get, ◌↔◌, ◌⊎◌, inl, inr, refl, sym, ap, ◌∙◌, subst, arith}
use Rattle.hpr_terms.proofs.Facts.{contains_at, in_map, map_in}
use Rattle.hpr_syntax.specs.Tree.{Tree}
use Rattle.hpr_paths.specs.Spots.{Spot, defined_at, UsesAt}
use Rattle.hpr_paths.proofs.Stands.{count_whole}
use Rattle.hpr_paths.specs.Successors.{spots}
use Rattle.hpr_reach.proofs.Grown.{pushed}
use Rattle.hpr_graph.specs.declared.link.LinkKind.{LinkKind}
use Rattle.hpr_graph.specs.declared.link.LinkKind.TheVariants as link
use Rattle.hpr_graph.specs.declared.link.Link.{Link}
use Rattle.hpr_build.specs.declared.flow_links.Source.{Source}
use Rattle.hpr_build.specs.declared.flows.Flow.{Flow}
use Rattle.hpr_build.specs.declared.flows.FlowKind.{FlowKind}
use Rattle.hpr_build.specs.declared.flows.FlowKind.TheVariants as flow
use Rattle.hpr_build.specs.declared.pushes.NewLink.{NewLink}
use Rattle.hpr_build.specs.declared.tables.Variable.{Variable}
use Rattle.hpr_build.specs.Flows.{IsFlowAt}
use Rattle.hpr_build.specs.Links.{exit_of, first_init, IsSourceAt, IsTargetAt, IsFlowOf, IsFlowLink}
use Rattle.hpr_build.specs.NewLinks.{link_kind, target_of, flow_link, IsInitialAt, FlowsFrom, FlowsOf}
use Rattle.hpr_graph.specs.Graphs.{IsOnce}
use Rattle.hpr_build.specs.Stages.{IsVariable}
use Rattle.hpr_build.proofs.BridgeNumbers.{defined_within, source_once, target_once}
use Rattle.hpr_build.proofs.Families.{SomeOf}
use Rattle.hpr_build.proofs.LinkTurns.{into}
use Rattle.hpr_build.proofs.Once.{once_map, once_after}
use Rattle.hpr_build.proofs.TargetNumbers.{target_uses, number_of_target, target_of_number}

pub flow_of_kind : (s : List Spot) (x : List ℕ) (d u : ℕ) (k : FlowKind) → IsFlowAt s x d u k → IsFlowOf s x d u (link_kind k)
flow_of_kind s x d u flow.Independent h = h
flow_of_kind s x d u (flow.Carried w) h = h

pub kind_of_flow : (s : List Spot) (x : List ℕ) (d u : ℕ) (k : LinkKind) → IsFlowOf s x d u k → (j : FlowKind) × (link_kind j ≡ k) × IsFlowAt s x d u j
kind_of_flow s x d u (link.Control b) h = absurd h
kind_of_flow s x d u link.Independent h = (flow.Independent, refl, h)
kind_of_flow s x d u (link.Carried w) h = (flow.Carried w, refl, h)
kind_of_flow s x d u (link.Order v) h = absurd h

kind_once : (j k : FlowKind) → link_kind j ≡ link_kind k → j ≡ k
kind_once flow.Independent flow.Independent e = refl
kind_once flow.Independent (flow.Carried w) e = absurd cc
kind_once (flow.Carried v) flow.Independent e = absurd cc
kind_once (flow.Carried v) (flow.Carried w) e = let same : v ≡ w = cc in ap (λ (n : ℕ). flow.Carried n) same

module _ (t : Tree) (v : Variable) (var : IsVariable t v) (s : List Spot) (whole : s ≡ spots t) (d source : ℕ) (flows : List Flow)
    (exact : (f : Flow) → Contains flows f ↔ (Contains v.users.now f.to × IsFlowAt s v.name.now d f.to f.kind)) where
  abbrev pub New : List NewLink
  New = map (flow_link (exit_of t) v.final_number source) flows

  flow_target : (f : Flow) → Contains flows f → IsTargetAt t v.name.now f.to (target_of (exit_of t) v.final_number f.to)
  flow_target f h = target_of_number t v var f.to (target_of (exit_of t) v.final_number f.to) ((var.users f.to).0 ((exact f).0 h).0) refl

  pub flows_of_links : (to : ℕ) (l : Link) → Contains New (into to l) → FlowsFrom t v.name.now d source to l
  flows_of_links to l h =
      let (f, has, is) = map_in (flow_link (exit_of t) v.final_number source) flows (into to l) h in
      let at : target_of (exit_of t) v.final_number f.to ≡ to = ap (λ (n : NewLink). n.to) is in
      let from : source ≡ l.from = ap (λ (n : NewLink). n.link.from) is in
      let kind : link_kind f.kind ≡ l.kind = ap (λ (n : NewLink). n.link.kind) is in
      let flowing : IsFlowAt (spots t) v.name.now d f.to f.kind = subst (λ (S : List Spot). IsFlowAt S v.name.now d f.to f.kind) whole ((exact f).0 has).1 in (
        sym from,
        (
          f.to,
          subst (IsTargetAt t v.name.now f.to) at (flow_target f has),
          subst (IsFlowOf (spots t) v.name.now d f.to) kind (flow_of_kind (spots t) v.name.now d f.to f.kind flowing),
        ),
      )

  pub links_of_flows : (to : ℕ) (l : Link) → FlowsFrom t v.name.now d source to l → Contains New (into to l)
  links_of_flows to l (from, (u, target, flowing)) =
      let (k, kind, at) = kind_of_flow (spots t) v.name.now d u l.kind flowing in
      let f : Flow = record { to = u; kind = k } in
      let has : Contains flows f = (exact f).1 ((var.users u).1 (target_uses t v.name.now u to target), subst (λ (S : List Spot). IsFlowAt S v.name.now d u k) (sym whole) at) in
      let number : to ≡ target_of (exit_of t) v.final_number u = number_of_target t v var u to target in
      let is : flow_link (exit_of t) v.final_number source f ≡ into to l = λ i. record { to = sym number i; link = record { from = sym from i; kind = kind i } } in
      subst (Contains New) is (in_map (flow_link (exit_of t) v.final_number source) flows f has)

  pub flow_links_once : IsOnce flows → IsOnce New
  flow_links_once once =
      once_map (flow_link (exit_of t) v.final_number source) flows once
      (λ f g hf hg e.
      let at : target_of (exit_of t) v.final_number f.to ≡ target_of (exit_of t) v.final_number g.to = ap (λ (n : NewLink). n.to) e in
      let to : f.to ≡ g.to = target_once t v.name.now v.name.now f.to g.to (target_of (exit_of t) v.final_number g.to) (subst (IsTargetAt t v.name.now f.to) at (flow_target f hf)) (flow_target g hg) in
      let kind : f.kind ≡ g.kind = kind_once f.kind g.kind (ap (λ (n : NewLink). n.link.kind) e) in
      λ i. record { to = to i; kind = kind i })

-- what stands past the end of a list of sources
abbrev pub no_source : Source
no_source = record { number = 0; point = 0 }

abbrev pub source_of_point : ℕ → Source
source_of_point p = record { number = p; point = p }

-- the parts that define a name, and its initial definition
module _ (t : Tree) (inits : List (List ℕ)) (v : Variable) (var : IsVariable t v) where
  abbrev Parts : List Source
  Parts = map source_of_point v.definitions.now

  abbrev IsPart : Source → Type 0
  IsPart s = (s.number ≡ s.point) × (defined_at (spots t) s.point ≡ Some v.name.now)

  part_of_among : (s : Source) → Contains Parts s → IsPart s
  part_of_among s h =
      let (p, has, is) = map_in source_of_point v.definitions.now s h in
      let number : p ≡ s.number = ap (λ (q : Source). q.number) is in
      let point : p ≡ s.point = ap (λ (q : Source). q.point) is in
      (sym number ∙ point, subst (λ (n : ℕ). defined_at (spots t) n ≡ Some v.name.now) point ((var.definitions p).0 has))

  among_of_part : (s : Source) → IsPart s → Contains Parts s
  among_of_part s (number, is) =
      let same : source_of_point s.point ≡ s = λ i. record { number = sym number i; point = s.point } in
      subst (Contains Parts) same (in_map source_of_point v.definitions.now s.point ((var.definitions s.point).1 is))

  pub parts_once : IsOnce Parts
  parts_once = once_map source_of_point v.definitions.now var.definitions_once (λ p q hp hq e. ap (λ (s : Source). s.point) e)

  pub parts_inside : (s : Source) → Contains Parts s → ¬ (s.point ≡ 0)
  parts_inside s h is = let within = defined_within t s.point v.name.now (part_of_among s h).1 in omega (arith, is, within.0)

  pub all_sources : (sources : List Source) → ((s : Source) → Contains sources s ↔ (Contains Parts s ⊎ IsInitialAt t inits v.name.now s.point s.number))
      → (s : Source) → Contains sources s ↔ IsSourceAt t inits v.name.now s.point s.number
  all_sources sources exact s = (
    (λ h. elim ((exact s).0 h) [ inl p ↦ inl (part_of_among s p) | inr i ↦ inr i ]),
    (λ h. elim h [ inl p ↦ (exact s).1 (inl (among_of_part s p)) | inr i ↦ (exact s).1 (inr i) ]),
  )

-- one more source, or none
pub initial_more : (t : Tree) (inits : List (List ℕ)) (x : List ℕ) (k n : ℕ) → IsOnce inits → slice_get inits k ≡ Some x → n ≡ first_init t + k → (old new : List Source) → new ≡ old ++ record { number = n; point = 0 } ∷ []
    → (s : Source) → Contains new s ↔ (Contains old s ⊎ IsInitialAt t inits x s.point s.number)
initial_more t inits x k n once at is old new items s =
    let more = pushed old (record { number = n; point = 0 }) s in
    rw items (
      (λ h. elim (more.0 h) [
        | inl was ↦ inl was
        | inr e ↦ inr (sym (ap (λ (q : Source). q.point) e), (k, at, sym (ap (λ (q : Source). q.number) e) ∙ is))
      ]),
      (λ h. elim h [
        | inl was ↦ more.1 (inl was)
        | inr (point, (j, there, number)) ↦ (let same : k ≡ j = once k j x at there in
            let numbers : n ≡ s.number = is ∙ ap (λ (m : ℕ). first_init t + m) same ∙ sym number in
            more.1 (inr (λ i. record { number = numbers i; point = sym point i })))
      ]),
    )

pub initial_none : (t : Tree) (inits : List (List ℕ)) (x : List ℕ) → ¬ Contains inits x → (old : List Source) (s : Source) → Contains old s ↔ (Contains old s ⊎ IsInitialAt t inits x s.point s.number)
initial_none t inits x none old s = ((λ h. inl h), (λ h. elim h [ inl was ↦ was | inr (point, (j, there, number)) ↦ absurd (none (contains_at inits j x there)) ]))

pub initial_once : (n : ℕ) (old new : List Source) → new ≡ old ++ record { number = n; point = 0 } ∷ [] → IsOnce old → ((s : Source) → Contains old s → ¬ (s.point ≡ 0)) → IsOnce new
initial_once n old new items once inside = once_after old new (record { number = n; point = 0 }) once (λ h. inside (record { number = n; point = 0 }) h refl) items

pub source_within : (t : Tree) (inits : List (List ℕ)) (x : List ℕ) (d v : ℕ) → IsSourceAt t inits x d v → d < length (spots t)
source_within t inits x d v (inl (at, is)) = omega (arith, (defined_within t d x is).1, count_whole t)
source_within t inits x d v (inr (point, k)) = omega (arith, point, count_whole t)

module _ (t : Tree) (inits : List (List ℕ)) where
  pub flow_of_source : (x : List ℕ) (d v to : ℕ) (l : Link) → IsSourceAt t inits x d v → FlowsFrom t x d v to l → FlowsOf t inits x to l
  flow_of_source x d v to l source (from, (u, target, flowing)) = (d, u, subst (IsSourceAt t inits x d) (sym from) source, target, flowing)

  pub flow_of_name : (x : List ℕ) (to : ℕ) (l : Link) → FlowsOf t inits x to l → IsFlowLink t inits to l
  flow_of_name x to l (d, u, source, target, flowing) = (x, d, u, source, target, flowing)

  pub name_of_flow : (x y : List ℕ) (to : ℕ) (l : Link) → FlowsOf t inits y to l → FlowsOf t inits x to l → y ≡ x
  name_of_flow x y to l (d, u, source, target, flowing) (e, w, source', target', flowing') = (source_once t inits y x d e l.from source source').0

  abbrev Flowing : List ℕ → ℕ → Link → Source → Type 0
  Flowing x to l s = FlowsFrom t x s.point s.number to l

  module _ (x : List ℕ) (sources : List Source) (exact : (s : Source) → Contains sources s ↔ IsSourceAt t inits x s.point s.number) (to : ℕ) (l : Link) where
    pub some_source : SomeOf sources (Flowing x to l) → FlowsOf t inits x to l
    some_source (s, has, h) = flow_of_source x s.point s.number to l ((exact s).0 has) h

    pub source_of_some : FlowsOf t inits x to l → SomeOf sources (Flowing x to l)
    source_of_some (d, u, source, target, flowing) = (record { number = l.from; point = d }, (exact (record { number = l.from; point = d })).1 source, (refl, (u, target, flowing)))

    pub one_source : (s r : Source) → Contains sources s → Contains sources r → Flowing x to l s → Flowing x to l r → s ≡ r
    one_source s r hs hr (from, a) (from', b) =
        let number : s.number ≡ r.number = sym from ∙ from' in
        let point : s.point ≡ r.point = (source_once t inits x x s.point r.point r.number (subst (IsSourceAt t inits x s.point) number ((exact s).0 hs)) ((exact r).0 hr)).1 in
        λ i. record { number = number i; point = point i }

  module _ (names : List (List ℕ)) (used : (x : List ℕ) → Contains names x ↔ ((p : ℕ) × UsesAt (spots t) p x)) (to : ℕ) (l : Link) where
    pub some_name : SomeOf names (λ x. FlowsOf t inits x to l) → IsFlowLink t inits to l
    some_name (x, has, h) = flow_of_name x to l h

    pub name_of_some : IsFlowLink t inits to l → SomeOf names (λ x. FlowsOf t inits x to l)
    name_of_some (x, d, u, source, target, flowing) = (x, (used x).1 (u, target_uses t x u to target), (d, u, source, target, flowing))

-- the links that are made of flow edges
pub made_links : (t : Tree) (v : Variable) (source end : ℕ) (flows fs : List Flow) (links : List NewLink) → links ≡ map (flow_link end v.final_number source) fs → fs ≡ flows → end ≡ exit_of t → links ≡ map (flow_link (exit_of t) v.final_number source) flows
made_links t v source end flows fs links made same ends =
    made ∙ ap (λ (xs : List Flow). map (flow_link end v.final_number source) xs) same ∙ ap (λ (n : ℕ). map (flow_link n v.final_number source) flows) ends
