-- A link has a number elsewhere exactly where its edge is there.
use Rattle.std.proofs.Common.{◌≡◌, ℕ, Option, Some, None, List, slice_get, refl, sym, ap, ◌∙◌, subst}
use Rattle.std.specs.Option.{option_map, option_and_then}
use Rattle.hpr_graph.specs.declared.vertex.Vertex.{Vertex}
use Rattle.hpr_graph.specs.declared.edge.Kind.{Kind}
use Rattle.hpr_graph.specs.declared.edge.Edge.{Edge}
use Rattle.hpr_graph.specs.declared.link.LinkKind.{LinkKind}
use Rattle.hpr_graph.specs.declared.link.LinkKind.TheVariants.{Control, Independent, Carried, Order}
use Rattle.hpr_graph.specs.declared.link.Link.{Link}
use Rattle.hpr_graph.specs.Graphs.{OnThird}
use Rattle.hpr_graph.specs.Numbered.{Numbered, HasVertex, HasEdge, IsKindAt, IsEdgeAt, IsNumbered}
use Rattle.hpr_graph.specs.Moves.{number_at, moved, moved_kind}
use Rattle.hpr_graph.proofs.Laws.{closed_by_numbers}
use Rattle.hpr_graph.proofs.EdgeList.{edge_link}
use Rattle.hpr_graph.proofs.Moving.{moved_edge}
use Rattle.hpr_affected.specs.Lacking.{AreNumbersIn, IsThere}

abbrev link_with : ℕ → LinkKind → Link
link_with from kind = record { from = from; kind = kind }

link_whole : (o : Option ℕ) (k : Option LinkKind) (j : ℕ) (m : LinkKind) → o ≡ Some j → k ≡ Some m → option_and_then (λ from. option_map (link_with from) k) o ≡ Some (link_with j m)
link_whole o k j m a b = rw (a, b) refl

module _ (g h : Numbered) (kh : IsNumbered h) (ns : List (Option ℕ)) (n : AreNumbersIn g h ns) where
  -- a number there is that of the same vertex
  pub same_at : (i j : ℕ) (v : Vertex) → number_at ns i ≡ Some j → slice_get g.vertices i ≡ Some v → slice_get h.vertices j ≡ Some v
  same_at i j v e at = let (w, here, there) = n.placed i j e in there ∙ sym here ∙ at

  number_by : (i : ℕ) (v : Vertex) (o : Option ℕ) → number_at ns i ≡ o → slice_get g.vertices i ≡ Some v → HasVertex h v → (j : ℕ) × (number_at ns i ≡ Some j)
  number_by i v None e at there = absurd (n.strangers i v at e there)
  number_by i v (Some j) e at there = (j, e)

  pub number_of_one : (i : ℕ) (v : Vertex) → slice_get g.vertices i ≡ Some v → HasVertex h v → (j : ℕ) × (number_at ns i ≡ Some j)
  number_of_one i v at there = number_by i v (number_at ns i) refl at there

  link_there : (at to : ℕ) (l m : Link) (e : Edge) → number_at ns at ≡ Some to → moved ns l ≡ Some m → IsEdgeAt g.vertices at l e → IsEdgeAt h.vertices to m e
  link_there at to l m e number mv is = (moved_edge g.vertices h.vertices ns n.placed at to l m e number mv).0 is

  -- where h has the link by its numbers there, it has the edge
  pub edge_from_there : (at : ℕ) (l : Link) (e : Edge) → IsEdgeAt g.vertices at l e → IsThere h ns at l → HasEdge h e
  edge_from_there at l e is (to, m, number, mv, has) = (to, m, has, link_there at to l m e number mv is)

  kind_moves : (k : LinkKind) (v : Vertex) (e : Kind) → IsKindAt g.vertices k v e → OnThird (HasVertex h) e → (m : LinkKind) × (moved_kind ns k ≡ Some m)
  kind_moves (Control label) v e is t = (Control label, refl)
  kind_moves Independent v e is t = (Independent, refl)
  kind_moves (Carried w) v e (x, y, d, at, is) t = let (j, number) = number_of_one w y at (subst (OnThird (HasVertex h)) is t) in (Carried j, ap (option_map Carried) number)
  kind_moves (Order u) v e (y, at, is) t = let (j, number) = number_of_one u y at (subst (OnThird (HasVertex h)) is t) in (Order j, ap (option_map Order) number)

  -- and where h has the edge, it has the link
  pub there_from_edge : (at : ℕ) (l : Link) (e : Edge) → IsEdgeAt g.vertices at l e → HasEdge h e → IsThere h ns at l
  there_from_edge at l e is has =
      let (to_there, from_there, third) = closed_by_numbers h e has in
      let (to, number) = number_of_one at e.to is.0 to_there in
      let (from, from_number) = number_of_one l.from e.from is.1 from_there in
      let (m, kind_number) = kind_moves l.kind e.from e.kind is.2 third in
      let mv : moved ns l ≡ Some (link_with from m) = link_whole (number_at ns l.from) (moved_kind ns l.kind) from m from_number kind_number in
      (to, link_with from m, number, mv, edge_link h kh.once to (link_with from m) e (link_there at to l (link_with from m) e number mv is) has)
