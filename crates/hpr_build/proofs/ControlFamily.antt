-- The control links by number.
use Rattle.std.proofs.Common.{◌≡◌, ◌↔◌, ◌++◌, ◌∷◌, ℕ, ◌+◌, ◌-◌, ◌<◌, ◌≤◌, Bool, true, List, [], Option, Some, None, map, length, length-append, Contains, inl, inr, refl, sym, ap, ◌∙◌, subst, arith}
use Rattle.std.proofs.lemmas.Bool.{cases_lt, cases_eq}
use Rattle.std.proofs.lemmas.List.{length-map}
use Rattle.std.proofs.lemmas.Option.{slice_get_within, slice_get_past}
use Rattle.hpr_syntax.specs.Tree.{Tree}
use Rattle.hpr_paths.specs.Successors.{spots}
use Rattle.hpr_graph.specs.declared.vertex.Vertex.TheVariants.{Entry, Init, Final}
use Rattle.hpr_graph.specs.declared.vertex.Vertex.{Vertex}
use Rattle.hpr_graph.specs.declared.link.LinkKind.TheVariants as link
use Rattle.hpr_graph.specs.declared.link.Link.{Link}
use Rattle.hpr_build.specs.declared.places.Parent.{Parent}
use Rattle.hpr_build.specs.declared.pushes.NewLink.{NewLink}
use Rattle.hpr_build.specs.Places.{Place, places, place_at}
use Rattle.hpr_build.specs.Links.{part_vertex, vertices_of, exit_of, IsUnder, IsControlLink, IsFlowOf, IsFlowLink, IsOrderLink}
use Rattle.hpr_build.specs.NewLinks.{parent_of, link_under}
use Rattle.hpr_build.proofs.LinkTurns.{into}
use Rattle.hpr_graph.specs.Graphs.{IsOnce}
use Rattle.hpr_build.proofs.Once.{once_after}
use Rattle.hpr_reach.proofs.Grown.{pushed}
use Rattle.hpr_build.proofs.PlaceIn.{count_places, some_place, place_of_part}

under_of : (p : Option Parent) (l : Link) → l ≡ link_under p → IsUnder p l
under_of None l is = is
under_of (Some p) l is = is

of_under : (p : Option Parent) (l : Link) → IsUnder p l → l ≡ link_under p
of_under None l is = is
of_under (Some p) l is = is

module _ (t : Tree) (inits : List (List ℕ)) where
  pub count_vertices : length (vertices_of t inits) ≡ exit_of t + length t.finals + length inits
  count_vertices =
      let parts : List Vertex = map part_vertex (places t) in
      let finals : List Vertex = map Final t.finals in
      let firsts : List Vertex = map Init inits in
      omega (arith, length-append parts (finals ++ firsts), length-append finals firsts, length-map (places t) part_vertex, length-map t.finals Final, length-map inits Init, count_places t.body 1 None [])

  past : (to : ℕ) → 1 ≤ to → place_at (places t) to ≡ None → exit_of t ≤ to
  past to low none = elim (cases_lt to (exit_of t)) [
    | inl l ↦ absurd (let k = some_place t.body 1 None [] to low (omega (arith, l)) in
        let e : None ≡ Some k.0 = sym none ∙ (place_of_part t to k.0 k.1).1 in
        cc)
    | inr high ↦ high
  ]

  abbrev pub Row : ℕ → Link → Type 0
  Row to l = (1 ≤ to) × (to < length (vertices_of t inits)) × (l ≡ link_under (parent_of (place_at (places t) to)))

  row_link : (to : ℕ) (l : Link) (o : Option Place) → 1 ≤ to → to < length (vertices_of t inits) → place_at (places t) to ≡ o → l ≡ link_under (parent_of o) → IsControlLink t inits to l
  row_link to l (Some p) low high at is = inl (p, low, at, under_of p.parent l is)
  row_link to l None low high at is = inr (past to low at, high, is)

  pub control_of_row : (to : ℕ) (l : Link) → Row to l → IsControlLink t inits to l
  control_of_row to l (low, high, is) = row_link to l (place_at (places t) to) low high refl is

  pub row_of_control : (to : ℕ) (l : Link) → IsControlLink t inits to l → Row to l
  row_of_control to l (inl (p, low, at, under)) =
      let within = slice_get_within (places t) (to - 1) p at in (
        low,
        omega (arith, within, count_vertices, count_places t.body 1 None []),
        of_under p.parent l under ∙ ap (λ (o : Option Place). link_under (parent_of o)) (sym at),
      )
  row_of_control to l (inr (high, within, under)) =
      let none : place_at (places t) to ≡ None = slice_get_past (places t) (to - 1) (omega (arith, high, count_places t.body 1 None [])) in (
        omega (arith, high),
        within,
        under ∙ ap (λ (o : Option Place). link_under (parent_of o)) (sym none),
      )

-- one row after another
abbrev pub ExactTo : List Place → ℕ → List NewLink → Type 0
ExactTo parts to links = (n : NewLink) → Contains links n ↔ ((1 ≤ n.to) × (n.to < to) × (n.link ≡ link_under (parent_of (place_at parts n.to))))

module _ (parts : List Place) (to : ℕ) (low : 1 ≤ to) (m : Link) (is : m ≡ link_under (parent_of (place_at parts to))) (links links' : List NewLink) (items : links' ≡ links ++ into to m ∷ []) (exact : ExactTo parts to links) where
  pub rows_more : ExactTo parts (to + 1) links'
  rows_more n =
      let more = pushed links (into to m) n in
      rw items (
        (λ h. elim (more.0 h) [
          | inl was ↦ (let (a, b, c) = (exact n).0 was in (a, omega (arith, b), c))
          | inr e ↦ (let at : to ≡ n.to = ap (λ (k : NewLink). k.to) e in
              let link : m ≡ n.link = ap (λ (k : NewLink). k.link) e in
              (omega (arith, at, low), omega (arith, at), sym link ∙ is ∙ ap (λ (k : ℕ). link_under (parent_of (place_at parts k))) at))
        ]),
        (λ (a, b, c). elim (cases_eq n.to to) [
          | inl e ↦ (let link : m ≡ n.link = is ∙ ap (λ (k : ℕ). link_under (parent_of (place_at parts k))) (sym e) ∙ sym c in
              more.1 (inr (λ i. record { to = sym e i; link = link i })))
          | inr ne ↦ more.1 (inl ((exact n).1 (a, omega (arith, b, ne), c)))
        ]),
      )

  pub rows_once : IsOnce links → IsOnce links'
  rows_once once = once_after links links' (into to m) once (λ h. let k = (exact (into to m)).0 h in omega (arith, k.1)) items

pub controls_exact : (t : Tree) (inits : List (List ℕ)) (parts : List Place) → parts ≡ places t → (count : ℕ) → count ≡ length (vertices_of t inits) → (links : List NewLink) → ExactTo parts count links
    → (n : NewLink) → Contains links n ↔ IsControlLink t inits n.to n.link
controls_exact t inits parts whole count size links exact n = (
  (λ h. let (low, high, is) = (exact n).0 h in
      control_of_row t inits n.to n.link (low, omega (arith, high, size), subst (λ (ps : List Place). n.link ≡ link_under (parent_of (place_at ps n.to))) whole is)),
  (λ h. let (low, high, is) = row_of_control t inits n.to n.link h in
      (exact n).1 (low, omega (arith, high, size), subst (λ (ps : List Place). n.link ≡ link_under (parent_of (place_at ps n.to))) (sym whole) is)),
)

under_kind : (p : Option Parent) (l : Link) → IsUnder p l → (b : Bool) × (l.kind ≡ link.Control b)
under_kind None l is = (true, ap (λ (m : Link). m.kind) is)
under_kind (Some p) l is = (p.label, ap (λ (m : Link). m.kind) is)

pub control_kind : (t : Tree) (inits : List (List ℕ)) (to : ℕ) (l : Link) → IsControlLink t inits to l → (b : Bool) × (l.kind ≡ link.Control b)
control_kind t inits to l (inl (p, low, at, under)) = under_kind p.parent l under
control_kind t inits to l (inr (high, within, under)) = under_kind None l under

-- a control link is no flow link and no order link, and a flow link is no order link
pub control_no_flow : (t : Tree) (inits : List (List ℕ)) (to : ℕ) (l : Link) → IsControlLink t inits to l → ¬ IsFlowLink t inits to l
control_no_flow t inits to l c (x, d, u, source, target, flow) = let k = control_kind t inits to l c in subst (IsFlowOf (spots t) x d u) k.1 flow

pub control_no_order : (t : Tree) (inits : List (List ℕ)) (to : ℕ) (l : Link) → IsControlLink t inits to l → ¬ IsOrderLink t to l
control_no_order t inits to l c (x, u, v, kind, target, left, right, low, apart, one, two) =
    let k = control_kind t inits to l c in
    let e : link.Control k.0 ≡ link.Order v = sym k.1 ∙ kind in
    cc

pub flow_no_order : (t : Tree) (inits : List (List ℕ)) (to : ℕ) (l : Link) → IsFlowLink t inits to l → ¬ IsOrderLink t to l
flow_no_order t inits to l (y, d, w, source, reads, flow) (x, u, v, kind, target, left, right, low, apart, one, two) = subst (IsFlowOf (spots t) y d w) kind flow

-- the vertices that are made of these lists
pub same_vertices : (t : Tree) (inits firsts finals : List (List ℕ)) (parts : List Place) → parts ≡ places t → finals ≡ t.finals → firsts ≡ inits → Entry ∷ (map part_vertex parts ++ (map Final finals ++ map Init firsts)) ≡ vertices_of t inits
same_vertices t inits firsts finals parts a b d = λ i. Entry ∷ (map part_vertex (a i) ++ (map Final (b i) ++ map Init (d i)))

-- the same behind an empty list
pub put_vertices : (t : Tree) (inits firsts finals : List (List ℕ)) (parts : List Place) (old new : List Vertex)
    → new ≡ old ++ Entry ∷ (map part_vertex parts ++ (map Final finals ++ map Init firsts)) → old ≡ [] → parts ≡ places t → finals ≡ t.finals → firsts ≡ inits → new ≡ vertices_of t inits
put_vertices t inits firsts finals parts old new is none a b d =
    is ∙ ap (λ (l : List Vertex). l ++ Entry ∷ (map part_vertex parts ++ (map Final finals ++ map Init firsts))) none ∙ same_vertices t inits firsts finals parts a b d
