-- The control links are the control edges of the program.
use Rattle.std.proofs.Common.{◌≡◌, ℕ, ◌+◌, ◌<◌, ◌≤◌, Bool, true, ◌↔◌, inl, inr, Option, Some, None, List, Contains, length, get_or, refl, sym, ap, ◌∙◌, subst, arith}
use Rattle.std.specs.List.{slice_get}
use Rattle.std.specs.Option.{option_and_then}
use Rattle.std.proofs.lemmas.Option.{same_Some, slice_get_within, slice_get-get_or}
use Rattle.hpr_terms.specs.declared.tag.Tag.{Tag}
use Rattle.hpr_terms.proofs.Facts.{contains_at, place_of}
use Rattle.hpr_syntax.specs.declared.rows.Content.{Content}
use Rattle.hpr_syntax.specs.Nests.{Standing, StandsAsIn, Says}
use Rattle.hpr_syntax.specs.Initial.{IsInitial}
use Rattle.hpr_syntax.specs.Shape.{IsProgram}
use Rattle.hpr_syntax.specs.Tree.{Tree}
use Rattle.hpr_paths.specs.Spots.{Role, enter, part, exit, tag_of, role_at, tag_at}
use Rattle.hpr_paths.specs.Successors.{spots}
use Rattle.hpr_paths.proofs.Nested.{says_of_number, number_of_says}
use Rattle.hpr_reach.proofs.Marked.{tags_once}
use Rattle.hpr_graph.specs.declared.vertex.Vertex.{Vertex}
use Rattle.hpr_graph.specs.declared.vertex.Vertex.TheVariants.{Entry, Init, Part, Final}
use Rattle.hpr_graph.specs.declared.edge.Kind.TheVariants as kind
use Rattle.hpr_graph.specs.declared.edge.Edge.{Edge}
use Rattle.hpr_graph.specs.declared.link.LinkKind.TheVariants as link
use Rattle.hpr_graph.specs.declared.link.Link.{Link}
use Rattle.hpr_graph.specs.Numbered.{IsEdgeAt}
use Rattle.hpr_graph.specs.ProgramGraph.{IsTop, StandsUnder, IsControl, IsEdgeOf}
use Rattle.hpr_build.specs.declared.places.Parent.{Parent}
use Rattle.hpr_build.specs.Places.{Place, places, place_at, IsParentOf}
use Rattle.hpr_build.specs.Links.{part_vertex, vertices_of, exit_of, first_init, IsUnder, IsControlLink}
use Rattle.hpr_build.proofs.PlaceIn.{PartAt, part_of_place, place_of_part}
use Rattle.hpr_build.proofs.PlaceLaws.{standing_of_part, part_of_standing}
use Rattle.hpr_build.proofs.BridgeNumbers.{part_within}
use Rattle.hpr_build.proofs.BridgeVertices.{vertex_at_part, vertex_at_role, vertex_at_final, vertex_at_init, vertex_cases}

-- the part of a tag
role_of_tag_by : (t : Tree) (p : ℕ) (w : Tag) (o : Option Role) → role_at (spots t) p ≡ o → option_and_then tag_of o ≡ Some w → (c : Content) × (role_at (spots t) p ≡ Some (part w c))
role_of_tag_by t p w None is h = absurd cc
role_of_tag_by t p w (Some enter) is h = absurd cc
role_of_tag_by t p w (Some (part v c)) is h = let same : v ≡ w = cc in (c, is ∙ ap (λ (u : Tag). Some (part u c)) same)
role_of_tag_by t p w (Some (exit finals)) is h = absurd cc

role_of_tag : (t : Tree) (p : ℕ) (w : Tag) → tag_at (spots t) p ≡ Some w → (c : Content) × (role_at (spots t) p ≡ Some (part w c))
role_of_tag t p w h = role_of_tag_by t p w (role_at (spots t) p) refl h

module _ (t : Tree) (inits : List (List ℕ)) where
  abbrev Vs : List Vertex
  Vs = vertices_of t inits

  abbrev LinkEdge : ℕ → Link → Type 0
  LinkEdge to l = (e : Edge) × IsEdgeAt Vs to l e × IsEdgeOf t e

  abbrev from_entry : Link
  from_entry = record { from = 0; kind = link.Control true }

  top_edge : (to : ℕ) (v : Vertex) → slice_get Vs to ≡ Some v → IsTop t v → LinkEdge to from_entry
  top_edge to v is top = (record { to = v; from = Entry; kind = kind.Control true }, (is, refl, refl), inl (refl, refl, top))

  part_edge : (to : ℕ) (p : Place) (l : Link) (s : Standing) (up : Option Parent) → PartAt t to p → StandsAsIn t.body p.tag s → s.content ≡ p.content → IsParentOf (spots t) up s.parent → IsUnder up l → LinkEdge to l
  part_edge to p l s None h stands content parent is =
      subst (LinkEdge to) (sym is) (top_edge to (part_vertex p) (vertex_at_part t inits to p h) (s, stands, content, parent))
  part_edge to p l s (Some up) h stands content (w, tag, parent) is =
      let (c, role) = role_of_tag t up.point w tag in
      subst (LinkEdge to) (sym is) (
        record { to = part_vertex p; from = Part w c; kind = kind.Control up.label },
        (vertex_at_part t inits to p h, vertex_at_role t inits up.point w c role, refl),
        inr (w, c, refl, says_of_number t up.point w c role, (p.tag, s, stands, ap (Part p.tag) (sym content), parent)),
      )

  end_edge : ((x : List ℕ) → Contains inits x ↔ IsInitial t x) → (to : ℕ) (v : Vertex) → exit_of t ≤ to → slice_get Vs to ≡ Some v → IsTop t v
  end_edge names to v low h = elim (vertex_cases t inits to v h) [
    | inl (e, f) ↦ absurd (omega (arith, e, low))
    | inr (inl (x, k, f)) ↦ absurd (omega (arith, low, (part_within t to x k).1))
    | inr (inr (inl (k, x, is, e, f))) ↦ subst (IsTop t) (sym f) (contains_at t.finals k x is)
    | inr (inr (inr (k, x, is, e, f))) ↦ subst (IsTop t) (sym f) ((names x).0 (contains_at inits k x is))
  ]

  item_at : (xs : List Vertex) (i : ℕ) → i < length xs → (x : Vertex) × (slice_get xs i ≡ Some x)
  item_at xs i l = (get_or xs i Entry, slice_get-get_or xs i Entry l)

  -- a control link is a control edge of the program
  pub control_edge : ((x : List ℕ) → Contains inits x ↔ IsInitial t x) → (to : ℕ) (l : Link) → IsControlLink t inits to l → LinkEdge to l
  control_edge names to l (inl (p, low, place, is)) =
      let h = part_of_place t to p low place in
      let (s, stands, content, parent) = standing_of_part t to p h in
      part_edge to p l s p.parent h stands content parent is
  control_edge names to l (inr (low, high, is)) =
      let (v, at) = item_at Vs to high in
      subst (LinkEdge to) (sym is) (top_edge to v at (end_edge names to v low at))

  abbrev EdgeLink : Edge → Type 0
  EdgeLink e = (to : ℕ) × (l : Link) × IsControlLink t inits to l × IsEdgeAt Vs to l e

  -- a part with what stands above it
  part_link : (v : Tag) (s : Standing) → StandsAsIn t.body v s
      → (to : ℕ) × (p : Place) × (1 ≤ to) × (place_at (places t) to ≡ Some p) × IsParentOf (spots t) p.parent s.parent × (slice_get Vs to ≡ Some (Part v s.content))
  part_link v s stands =
      let (n, p, h, tag, content, parent) = part_of_standing t v s stands in
      let (low, place) = place_of_part t n p h in
      (n, p, omega (arith, low), place, parent, vertex_at_part t inits n p h ∙ (λ i. Some (Part (tag i) (content i))))

  top_link_by : (v : Tag) (c : Content) (s : Standing) (up : Option Parent) → IsParentOf (spots t) up s.parent → s.parent ≡ None → IsUnder up from_entry
  top_link_by v c s None parent none = refl
  top_link_by v c s (Some up) (w, tag, parent) none = absurd (let e : None ≡ Some (w, up.label) = sym none ∙ parent in cc)

  end_link : (to : ℕ) (v : Vertex) → exit_of t ≤ to → slice_get Vs to ≡ Some v → EdgeLink (record { to = v; from = Entry; kind = kind.Control true })
  end_link to v low is = (to, from_entry, inr (low, slice_get_within Vs to v is, refl), (is, refl, refl))

  top_link : ((x : List ℕ) → Contains inits x ↔ IsInitial t x) → (v : Vertex) → IsTop t v → EdgeLink (record { to = v; from = Entry; kind = kind.Control true })
  top_link names Entry h = absurd h
  top_link names (Init x) h = let k = place_of inits x ((names x).1 h) in end_link (first_init t + k.0) (Init x) (omega arith) (vertex_at_init t inits k.0 x k.1)
  top_link names (Part v c) (s, stands, content, none) =
      let (n, p, low, place, parent, is) = part_link v s stands in
      (n, from_entry, inl (p, low, place, top_link_by v c s p.parent parent none), (is ∙ ap (λ (d : Content). Some (Part v d)) content, refl, refl))
  top_link names (Final x) h = let k = place_of t.finals x h in end_link (exit_of t + k.0) (Final x) (omega arith) (vertex_at_final t inits k.0 x k.1)

  module _ (prog : IsProgram t) where
    under_by : (s : Standing) (up : Option Parent) (w : Tag) (label : Bool) (q : ℕ) (c : Content) → IsParentOf (spots t) up s.parent → s.parent ≡ Some (w, label) → role_at (spots t) q ≡ Some (part w c)
        → IsUnder up (record { from = q; kind = link.Control label })
    under_by s None w label q c none is role = absurd (let e : None ≡ Some (w, label) = sym none ∙ is in cc)
    under_by s (Some up) w label q c (v, tag, parent) is role =
        let pair : (v, up.label) ≡ (w, label) = same_Some (v, up.label) (w, label) (sym parent ∙ is) in
        let same : v ≡ w = ap (λ (p : Tag × Bool). p.0) pair in
        let label_is : label ≡ up.label = ap (λ (p : Tag × Bool). p.1) (sym pair) in
        let number : q ≡ up.point = tags_once t prog q up.point w (ap (option_and_then tag_of) role) (tag ∙ ap (λ (u : Tag). Some u) same) in
        (λ i. record { from = number i; kind = link.Control (label_is i) })

    under_link : (label : Bool) (w : Tag) (c : Content) (to : Vertex) → Says t.body w c → StandsUnder t w label to → EdgeLink (record { to = to; from = Part w c; kind = kind.Control label })
    under_link label w c to says (v, s, stands, e, parent_is) =
        let (q, role) = number_of_says t w c says in
        let (n, p, low, place, parent, is) = part_link v s stands in (
          n,
          record { from = q; kind = link.Control label },
          inl (p, low, place, under_by s p.parent w label q c parent parent_is role),
          (is ∙ ap (λ (x : Vertex). Some x) (sym e), vertex_at_role t inits q w c role, refl),
        )

    edge_so : (e f : Edge) → e ≡ f → EdgeLink e → EdgeLink f
    edge_so e f is h = subst EdgeLink is h

    -- a control edge of the program is a control link
    pub control_link : ((x : List ℕ) → Contains inits x ↔ IsInitial t x) → (label : Bool) (from to : Vertex) → IsControl t label from to → EdgeLink (record { to = to; from = from; kind = kind.Control label })
    control_link names label from to (inl (e, f, top)) =
        edge_so (record { to = to; from = Entry; kind = kind.Control true }) (record { to = to; from = from; kind = kind.Control label })
        (λ i. record { to = to; from = sym e i; kind = kind.Control (sym f i) }) (top_link names to top)
    control_link names label from to (inr (w, c, e, says, under)) =
        edge_so (record { to = to; from = Part w c; kind = kind.Control label }) (record { to = to; from = from; kind = kind.Control label })
        (λ i. record { to = to; from = sym e i; kind = kind.Control label }) (under_link label w c to says under)
