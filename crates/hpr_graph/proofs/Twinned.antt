-- A graph is within another where each vertex is there, and each link into it has its twin in the row there.
use Rattle.std.proofs.Common.{arith, ◌≡◌, ℕ, Bool, false, ◌<◌, ◌↔◌, Option, Some, None, IfSome, IsNone, IsTrue, List, Contains, length, slice_get, refl, sym, ap, ◌∙◌, subst}
use Rattle.std.proofs.lemmas.Option.{slice_get_within}
use Rattle.hpr_graph.specs.declared.vertex.Vertex.{Vertex}
use Rattle.hpr_graph.specs.declared.edge.Kind.{Kind}
use Rattle.hpr_graph.specs.declared.edge.Kind.TheVariants as kind
use Rattle.hpr_graph.specs.declared.link.LinkKind.{LinkKind}
use Rattle.hpr_graph.specs.declared.link.LinkKind.TheVariants.{Control, Independent, Carried, Order}
use Rattle.hpr_graph.specs.declared.link.Link.{Link}
use Rattle.hpr_graph.specs.Graphs.{IsOnce, IsWithin, Same}
use Rattle.hpr_graph.specs.Numbered.{Numbered, IsKindAt, IsNumbered, graph_in, link_count, row_of, row_items}
use Rattle.hpr_graph.specs.Twins.{SameKind, SameLink, HasTwin, HasTwins}
use Rattle.hpr_graph.proofs.EdgeList.{edges_counted}
use Rattle.hpr_graph.proofs.Laws.{same_from_within}
use Rattle.hpr_graph.proofs.Lists.{all_members, no_longer, some_inj, contains_at, place_of}

kind_twin : (vs us : List Vertex) (k m : LinkKind) (v : Vertex) (e : Kind) → SameKind vs k us m → IsKindAt vs k v e → IsKindAt us m v e
kind_twin vs us (Control a) (Control b) v e same h = h ∙ ap kind.Control same
kind_twin vs us Independent Independent v e same h = h
kind_twin vs us (Carried w) (Carried w') v e same (x, t, d, at, is) = (x, t, d, same ∙ at, is)
kind_twin vs us (Order u) (Order u') v e same (t, at, is) = (t, same ∙ at, is)
kind_twin vs us (Control a) Independent v e same h = absurd same
kind_twin vs us (Control a) (Carried w) v e same h = absurd same
kind_twin vs us (Control a) (Order u) v e same h = absurd same
kind_twin vs us Independent (Control a) v e same h = absurd same
kind_twin vs us Independent (Carried w) v e same h = absurd same
kind_twin vs us Independent (Order u) v e same h = absurd same
kind_twin vs us (Carried w) (Control a) v e same h = absurd same
kind_twin vs us (Carried w) Independent v e same h = absurd same
kind_twin vs us (Carried w) (Order u) v e same h = absurd same
kind_twin vs us (Order u) (Control a) v e same h = absurd same
kind_twin vs us (Order u) Independent v e same h = absurd same
kind_twin vs us (Order u) (Carried w) v e same h = absurd same

kind_same : (vs us : List Vertex) (k m : LinkKind) (v : Vertex) (e : Kind) → IsKindAt vs k v e → IsKindAt us m v e → SameKind vs k us m
kind_same vs us (Control a) (Control b) v e h i = let s : kind.Control a ≡ kind.Control b = sym h ∙ i in cc
kind_same vs us (Control a) Independent v e h (y, c, js) = let s : kind.Control a ≡ kind.Independent y = sym h ∙ js in cc
kind_same vs us (Control a) (Carried w) v e h (y, t, c, at, js) = let s : kind.Control a ≡ kind.Carried y t = sym h ∙ js in cc
kind_same vs us (Control a) (Order u) v e h (t, at, js) = let s : kind.Control a ≡ kind.Order t = sym h ∙ js in cc
kind_same vs us Independent (Control b) v e (x, d, is) i = let s : kind.Independent x ≡ kind.Control b = sym is ∙ i in cc
kind_same vs us Independent Independent v e h i = tt
kind_same vs us Independent (Carried w) v e (x, d, is) (y, t, c, at, js) = let s : kind.Independent x ≡ kind.Carried y t = sym is ∙ js in cc
kind_same vs us Independent (Order u) v e (x, d, is) (t, at, js) = let s : kind.Independent x ≡ kind.Order t = sym is ∙ js in cc
kind_same vs us (Carried w) (Control b) v e (x, t, d, at, is) i = let s : kind.Carried x t ≡ kind.Control b = sym is ∙ i in cc
kind_same vs us (Carried w) Independent v e (x, t, d, at, is) (y, c, js) = let s : kind.Carried x t ≡ kind.Independent y = sym is ∙ js in cc
kind_same vs us (Carried w) (Carried w') v e (x, t, d, at, is) (y, t', c, at', js) =
    let s : kind.Carried x t ≡ kind.Carried y t' = sym is ∙ js in
    let same : t ≡ t' = cc in
    at' ∙ ap Some (sym same) ∙ sym at
kind_same vs us (Carried w) (Order u) v e (x, t, d, at, is) (t', at', js) = let s : kind.Carried x t ≡ kind.Order t' = sym is ∙ js in cc
kind_same vs us (Order u) (Control b) v e (t, at, is) i = let s : kind.Order t ≡ kind.Control b = sym is ∙ i in cc
kind_same vs us (Order u) Independent v e (t, at, is) (y, c, js) = let s : kind.Order t ≡ kind.Independent y = sym is ∙ js in cc
kind_same vs us (Order u) (Carried w) v e (t, at, is) (y, t', c, at', js) = let s : kind.Order t ≡ kind.Carried y t' = sym is ∙ js in cc
kind_same vs us (Order u) (Order u') v e (t, at, is) (t', at', js) =
    let s : kind.Order t ≡ kind.Order t' = sym is ∙ js in
    let same : t ≡ t' = cc in
    at' ∙ ap Some (sym same) ∙ sym at

-- the vertex is in h, with a twin of each link into it
abbrev pub IsVertexWithin : Numbered → Numbered → ℕ → Type 0
IsVertexWithin g h i = (there : ℕ) × (slice_get h.vertices there ≡ slice_get g.vertices i) × HasTwins g.vertices (row_of g i) h.vertices (row_of h there)

pub within_from_twins : (g h : Numbered) → ((i : ℕ) → i < length g.vertices → IsVertexWithin g h i) → IsWithin (graph_in g) (graph_in h)
within_from_twins g h all = (
  λ v there.
      (let (i, at) = place_of g.vertices v there in
      let (j, same, twins) = all i (slice_get_within g.vertices i v at) in
      contains_at h.vertices j v (same ∙ at)),
  λ e (to, l, has, is).
      (let (j, same, twins) = all to (slice_get_within g.vertices to e.to is.0) in
      let (m, there, (from, k)) = twins l has in
      (j, m, there, (same ∙ is.0, from ∙ is.1, kind_twin g.vertices h.vertices l.kind m.kind e.from e.kind k is.2))),
)

pub twins_from_within : (g h : Numbered) → IsNumbered g → IsNumbered h → IsWithin (graph_in g) (graph_in h) → (i j : ℕ) → slice_get h.vertices j ≡ slice_get g.vertices i → HasTwins g.vertices (row_of g i) h.vertices (row_of h j)
twins_from_within g h kg kh all i j same l has =
    let (e, is) = kg.links i l has in
    let (to, m, there, is') = all.1 e (i, l, has, is) in
    let is_j : to ≡ j = kh.once to j e.to is'.0 (same ∙ is.0) in (
      m,
      subst (λ (n : ℕ). Contains (row_of h n) m) is_j there,
      (is'.1 ∙ sym is.1, kind_same g.vertices h.vertices l.kind m.kind e.from e.kind is.2 is'.2),
    )

-- the same by what the code reads
pub read_twins : (g h : Numbered) (vs us : List Vertex) (row other : List Link) (i j : ℕ) → vs ≡ g.vertices → us ≡ h.vertices → slice_get g.links i ≡ Some row → slice_get h.links j ≡ Some other → HasTwins vs row us other ↔ HasTwins g.vertices (row_of g i) h.vertices (row_of h j)
read_twins g h vs us row other i j vs_is us_is row_is other_is =
    let a : row_of g i ≡ row = ap row_items row_is in
    let b : row_of h j ≡ other = ap row_items other_is in
    rw (vs_is, us_is, a, b) (λ t. t, λ t. t)

-- links by the numbers of another graph
module _ (vs us : List Vertex) (once : IsOnce us) where
  pub number_found : (at : ℕ) (v : Vertex) (r : Option ℕ) → slice_get vs at ≡ Some v → IfSome r (λ n. slice_get us n ≡ Some v) → (IsNone r ↔ (¬ Contains us v)) → (i : ℕ) → (slice_get us i ≡ slice_get vs at) ↔ (r ≡ Some i)
  number_found at v None here found stranger i = (λ same. absurd (stranger.0 refl (contains_at us i v (same ∙ here))), λ e. absurd cc)
  number_found at v (Some n) here found stranger i = (
    λ same. ap Some (once n i v found (same ∙ here)),
    λ e. (let is : n ≡ i = cc in ap (slice_get us) (sym is) ∙ found ∙ sym here),
  )

  abbrev IsKind : LinkKind → Option LinkKind → Type 0
  IsKind k r = (m : LinkKind) → SameKind vs k us m ↔ (r ≡ Some m)

  pub control_there : (label : Bool) → IsKind (Control label) (Some (Control label))
  control_there label (Control b) = (λ e. ap (λ (x : Bool). Some (Control x)) e, λ e. cc)
  control_there label Independent = (λ e. absurd e, λ e. absurd cc)
  control_there label (Carried w) = (λ e. absurd e, λ e. absurd cc)
  control_there label (Order u) = (λ e. absurd e, λ e. absurd cc)

  pub independent_there : IsKind Independent (Some Independent)
  independent_there (Control b) = (λ e. absurd e, λ e. absurd cc)
  independent_there Independent = (λ e. refl, λ e. tt)
  independent_there (Carried w) = (λ e. absurd e, λ e. absurd cc)
  independent_there (Order u) = (λ e. absurd e, λ e. absurd cc)

  abbrev IsThere : Link → Option Link → Type 0
  IsThere l r = (m : Link) → SameLink vs l us m ↔ (r ≡ Some m)

  pub twin_found : (l m : Link) (row : List Link) (r : Bool) → IsThere l (Some m) → (IsTrue r ↔ Contains row m) → IsTrue r ↔ HasTwin vs l us row
  twin_found l m row r there has = (
    λ t. (m, has.0 t, (there m).1 refl),
    λ (n, among, same). has.1 (subst (Contains row) (sym (some_inj m n ((there n).0 same))) among),
  )

  pub no_twin : (l : Link) (row : List Link) → IsThere l None → IsTrue false ↔ HasTwin vs l us row
  no_twin l row there = (λ t. absurd cc, λ (n, among, same). absurd (let e : None ≡ Some n = (there n).0 same in cc))

-- graphs with as many vertices and as many edges, one of which is within the other, are the same
module _ (g h : Numbered) (kg : IsNumbered g) (kh : IsNumbered h) where
  pub same_by_counts : (length g.vertices ≡ length h.vertices) × (link_count g ≡ link_count h) → IsWithin (graph_in g) (graph_in h) → Same (graph_in g) (graph_in h)
  same_by_counts (vertices, edges) within =
      let (es, (once, all), len) = edges_counted g kg in
      let (fs, (once', all'), len') = edges_counted h kh in
      same_from_within (graph_in g) (graph_in h) within (
        λ v there. all_members g.vertices h.vertices kg.once within.0 (omega (arith, vertices)) v there,
        λ e there. (all e).0 (all_members es fs once (λ f k. (all' f).1 (within.1 f ((all f).0 k))) (omega (arith, edges, len, len')) e ((all' e).1 there)),
      )

  pub same_counts : Same (graph_in g) (graph_in h) → (length g.vertices ≡ length h.vertices) × (link_count g ≡ link_count h)
  same_counts (vertices, edges) =
      let (es, (once, all), len) = edges_counted g kg in
      let (fs, (once', all'), len') = edges_counted h kh in
      let a = no_longer es fs once (λ e k. (all' e).1 ((edges e).0 ((all e).0 k))) in
      let b = no_longer fs es once' (λ e k. (all e).1 ((edges e).1 ((all' e).0 k))) in
      let c = no_longer g.vertices h.vertices kg.once (λ v k. (vertices v).0 k) in
      let d = no_longer h.vertices g.vertices kh.once (λ v k. (vertices v).1 k) in
      (omega (arith, c, d), omega (arith, a, b, len, len'))
