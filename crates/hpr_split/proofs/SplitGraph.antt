-- A graph by numbers whose vertices are renamed is the split graph.
use Rattle.std.proofs.Common.{◌≡◌, List, map, Contains, refl, sym, ap, ◌∙◌, subst}
use Rattle.hpr_terms.specs.declared.tag.Tag.{Tag}
use Rattle.hpr_terms.proofs.Facts.{get_in_map, get_map, in_map, map_in}
use Rattle.hpr_graph.specs.declared.vertex.Vertex.{Vertex}
use Rattle.hpr_graph.specs.declared.edge.Kind.{Kind}
use Rattle.hpr_graph.specs.declared.edge.Kind.TheVariants as kind
use Rattle.hpr_graph.specs.declared.edge.Edge.{Edge}
use Rattle.hpr_graph.specs.declared.link.LinkKind.{LinkKind}
use Rattle.hpr_graph.specs.declared.link.LinkKind.TheVariants.{Control, Independent, Carried, Order}
use Rattle.hpr_graph.specs.Graphs.{Same, name_of}
use Rattle.hpr_graph.specs.Numbered.{Numbered, HasEdge, IsKindAt, graph_in}
use Rattle.hpr_graph.specs.Split.{renamed, renamed_edge, renamed_kind, split_graph, split_numbered}
use Rattle.hpr_split.proofs.Renamed.{renamed_name}

module _ (rs : List (Vertex × Tag)) (g : Numbered) where
  kind_renamed : (k : LinkKind) (u : Vertex) (e : Kind) → IsKindAt g.vertices k u e → IsKindAt (map (renamed rs) g.vertices) k (renamed rs u) (renamed_kind rs e)
  kind_renamed (Control label) u e is = ap (renamed_kind rs) is
  kind_renamed Independent u e (x, name, is) = (x, renamed_name rs u ∙ name, ap (renamed_kind rs) is)
  kind_renamed (Carried w) u e (x, v, name, at, is) =
      (x, renamed rs v, renamed_name rs u ∙ name, get_in_map (renamed rs) g.vertices w v at, ap (renamed_kind rs) is)
  kind_renamed (Order w) u e (v, at, is) = (renamed rs v, get_in_map (renamed rs) g.vertices w v at, ap (renamed_kind rs) is)

  kind_before : (k : LinkKind) (u w : Vertex) (d : Kind) → renamed rs u ≡ w → IsKindAt (map (renamed rs) g.vertices) k w d → (e : Kind) × IsKindAt g.vertices k u e × (renamed_kind rs e ≡ d)
  kind_before (Control label) u w d same is = (kind.Control label, refl, sym is)
  kind_before Independent u w d same (x, name, is) =
      (kind.Independent x, (x, sym (renamed_name rs u) ∙ ap name_of same ∙ name, refl), sym is)
  kind_before (Carried n) u w d same (x, t, name, at, is) =
      let (v, there, was) = get_map (renamed rs) g.vertices n t at in
      (kind.Carried x v, (x, v, sym (renamed_name rs u) ∙ ap name_of same ∙ name, there, refl), ap (λ (y : Vertex). kind.Carried x y) was ∙ sym is)
  kind_before (Order n) u w d same (t, at, is) =
      let (v, there, was) = get_map (renamed rs) g.vertices n t at in
      (kind.Order v, (v, there, refl), ap (λ (y : Vertex). kind.Order y) was ∙ sym is)

  edge_renamed : (e d : Edge) → HasEdge g e → renamed_edge rs e ≡ d → HasEdge (split_numbered rs g) d
  edge_renamed e d (to, l, has, (a, b, k)) is =
      subst (λ (f : Edge). HasEdge (split_numbered rs g) f) is
      (to, l, has, (get_in_map (renamed rs) g.vertices to e.to a, get_in_map (renamed rs) g.vertices l.from e.from b, kind_renamed l.kind e.from e.kind k))

  edge_before : (d : Edge) → HasEdge (split_numbered rs g) d → (e : Edge) × HasEdge g e × (renamed_edge rs e ≡ d)
  edge_before d (to, l, has, (a, b, k)) =
      let (v, there, to_is) = get_map (renamed rs) g.vertices to d.to a in
      let (u, from, from_is) = get_map (renamed rs) g.vertices l.from d.from b in
      let (e, stands, kind_is) = kind_before l.kind u d.from d.kind from_is k in
      (record { to = v; from = u; kind = e }, (to, l, has, (there, from, stands)), (λ i. record { to = to_is i; from = from_is i; kind = kind_is i }))

  pub split_same : Same (graph_in (split_numbered rs g)) (split_graph rs (graph_in g))
  split_same = (
    λ w. (
      λ h. map_in (renamed rs) g.vertices w h,
      λ (v, there, is). subst (λ (x : Vertex). Contains (map (renamed rs) g.vertices) x) is (in_map (renamed rs) g.vertices v there),
    ),
    λ d. (
      λ h. edge_before d h,
      λ (e, has, is). edge_renamed e d has is,
    ),
  )
