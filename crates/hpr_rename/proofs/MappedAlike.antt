-- A graph under new tags is mapped by a map that takes each vertex back, where this does the same to each of its vertices: so it is with new tags
-- that a list has for some parts, and with those that a function gives to all.
use Rattle.std.proofs.Common.{◌≡◌, List, [], refl, sym, ap, subst, ◌∙◌}
use Rattle.hpr_terms.specs.declared.tag.Tag.{Tag}
use Rattle.hpr_graph.specs.declared.vertex.Vertex.{Vertex}
use Rattle.hpr_graph.specs.declared.edge.Kind.{Kind}
use Rattle.hpr_graph.specs.declared.edge.Kind.TheVariants.{Control, Independent, Carried, Order}
use Rattle.hpr_graph.specs.declared.edge.Edge.{Edge}
use Rattle.hpr_graph.specs.Graphs.{Graph, Same, OnThird}
use Rattle.hpr_graph.specs.Split.{renamed, renamed_kind, renamed_edge, split_graph}
use Rattle.hpr_graph.specs.Whole.{HasEnds}
use Rattle.hpr_rename.specs.Renamed.{vertex_with, kind_with, edge_with, graph_with}
use Rattle.hpr_rename.proofs.Graphs.{graph_back}
use Rattle.hpr_rename.proofs.Mapped.{mapped, mapped_kind, mapped_edge, edge_twice}

edge_path : (e d : Edge) → e.to ≡ d.to → e.from ≡ d.from → e.kind ≡ d.kind → e ≡ d
edge_path e d p q r = (λ i. record { to = p i; from = q i; kind = r i })

-- what each vertex and each edge becomes
abbrev image : (Vertex → Vertex) → (Edge → Edge) → Graph → Graph
image to over g = record {
  vertex = λ w. (v : Vertex) × g.vertex v × (to v ≡ w);
  edge = λ d. (e : Edge) × g.edge e × (over e ≡ d);
}

module _ (g : Graph) (ends : HasEnds g) (to : Vertex → Vertex) (over : Edge → Edge) (over_is : (e : Edge) → over e ≡ mapped_edge to e)
    (f : Vertex → Vertex) (back : (v : Vertex) → f (f v) ≡ v) (alike : (v : Vertex) → g.vertex v → f v ≡ to v) where
  kind_alike : (k : Kind) → OnThird g.vertex k → mapped_kind f k ≡ mapped_kind to k
  kind_alike (Control label) has = refl
  kind_alike (Independent x) has = refl
  kind_alike (Carried x w) has = ap (λ (v : Vertex). Carried x v) (alike w has)
  kind_alike (Order u) has = ap (λ (v : Vertex). Order v) (alike u has)

  edge_alike : (e : Edge) → g.edge e → mapped_edge f e ≡ over e
  edge_alike e has =
      let inside = ends e has in
      edge_path (mapped_edge f e) (mapped_edge to e) (alike e.to inside.0) (alike e.from inside.1) (kind_alike e.kind inside.2) ∙ sym (over_is e)

  image_mapped : Same (image to over g) (mapped f g)
  image_mapped = (
    λ w. (
      λ (v, has, is). subst g.vertex (sym (back v) ∙ ap f (alike v has ∙ is)) has,
      λ has. (f w, has, sym (alike (f w) has) ∙ back w),
    ),
    λ d. (
      λ (e, has, is). subst g.edge (sym (edge_twice f back e) ∙ ap (mapped_edge f) (edge_alike e has ∙ is)) has,
      λ has. (mapped_edge f d, has, sym (edge_alike (mapped_edge f d) has) ∙ edge_twice f back d),
    ),
  )

-- new tags by a list
module _ (rs : List (Vertex × Tag)) where
  kind_by_list : (k : Kind) → renamed_kind rs k ≡ mapped_kind (renamed rs) k
  kind_by_list (Control label) = refl
  kind_by_list (Independent x) = refl
  kind_by_list (Carried x w) = refl
  kind_by_list (Order u) = refl

  edge_by_list : (e : Edge) → renamed_edge rs e ≡ mapped_edge (renamed rs) e
  edge_by_list e = edge_path (renamed_edge rs e) (mapped_edge (renamed rs) e) refl refl (kind_by_list e.kind)

pub split_mapped : (g : Graph) → HasEnds g → (rs : List (Vertex × Tag)) (f : Vertex → Vertex) → ((v : Vertex) → f (f v) ≡ v)
    → ((v : Vertex) → g.vertex v → f v ≡ renamed rs v)
    → Same (split_graph rs g) (mapped f g)
split_mapped g ends rs f back alike = image_mapped g ends (renamed rs) (renamed_edge rs) (edge_by_list rs) f back alike

-- new tags by a function
module _ (h : Tag → Tag) where
  kind_by_tags : (k : Kind) → kind_with h k ≡ mapped_kind (vertex_with h) k
  kind_by_tags (Control label) = refl
  kind_by_tags (Independent x) = refl
  kind_by_tags (Carried x w) = refl
  kind_by_tags (Order u) = refl

  edge_by_tags : (e : Edge) → edge_with h e ≡ mapped_edge (vertex_with h) e
  edge_by_tags e = edge_path (edge_with h e) (mapped_edge (vertex_with h) e) refl refl (kind_by_tags e.kind)

  pub back_mapped : (g : Graph) → Same (graph_back h g) (mapped (vertex_with h) g)
  back_mapped g = (
    λ v. (λ has. has, λ has. has),
    λ e. (λ has. subst g.edge (edge_by_tags e) has, λ has. subst g.edge (sym (edge_by_tags e)) has),
  )

pub with_mapped : (g : Graph) → HasEnds g → (h : Tag → Tag) (f : Vertex → Vertex) → ((v : Vertex) → f (f v) ≡ v)
    → ((v : Vertex) → g.vertex v → f v ≡ vertex_with h v)
    → Same (graph_with h g) (mapped f g)
with_mapped g ends h f back alike = image_mapped g ends (vertex_with h) (edge_with h) (edge_by_tags h) f back alike

-- no part gets a new tag
kind_same : (k : Kind) → k ≡ renamed_kind [] k
kind_same (Control label) = refl
kind_same (Independent x) = refl
kind_same (Carried x w) = refl
kind_same (Order u) = refl

edge_same : (e : Edge) → e ≡ renamed_edge [] e
edge_same e = edge_path e (renamed_edge [] e) refl refl (kind_same e.kind)

pub split_none : (g : Graph) → Same (split_graph [] g) g
split_none g = (
  λ w. (λ (v, has, is). subst g.vertex is has, λ has. (w, has, refl)),
  λ d. (λ (e, has, is). subst g.edge (edge_same e ∙ is) has, λ has. (d, has, sym (edge_same d))),
)
