-- Independent edges and order edges between parts go from left to right.
use Rattle.std.proofs.Common.{◌≡◌, ℕ, List, refl, subst}
use Rattle.hpr_terms.specs.declared.tag.Tag.{Tag}
use Rattle.hpr_syntax.specs.declared.rows.Content.{Content}
use Rattle.hpr_syntax.specs.Skeleton.{Point, at, skeleton}
use Rattle.hpr_syntax.specs.Places.{StandsLeft}
use Rattle.hpr_syntax.specs.Shape.{IsProgram}
use Rattle.hpr_syntax.specs.Tree.{Tree}
use Rattle.hpr_paths.specs.Spots.{part}
use Rattle.hpr_paths.proofs.Left.{left_by_number}
use Rattle.hpr_paths.proofs.Nested.{number_of_says}
use Rattle.hpr_graph.specs.declared.vertex.Vertex.{Vertex}
use Rattle.hpr_graph.specs.declared.vertex.Vertex.TheVariants.{Part}
use Rattle.hpr_graph.specs.declared.edge.Kind.{Kind}
use Rattle.hpr_graph.specs.declared.edge.Kind.TheVariants.{Independent, Order}
use Rattle.hpr_graph.specs.declared.edge.Edge.{Edge}
use Rattle.hpr_graph.specs.ProgramGraph.{IsIndependent, IsOrder, IsEdgeBy, IsEdgeOf}
use Rattle.hpr_build.proofs.FlowTags.{independent_by_tags}
use Rattle.hpr_build.proofs.BridgeAhead.{independent_ahead}

module _ (t : Tree) (v w : Tag) (c d : Content) where
  independent_left : IsProgram t → (x : List ℕ) → IsIndependent t x (Part v c) (Part w d) → StandsLeft (skeleton t.body) (at v) (at w)
  independent_left prog x (a, z, marks, ((is, says, e), (uses, says', f), path), avoids) =
      let (p, role) = number_of_says t v c says in
      let (q, role') = number_of_says t w d says' in
      let flow = (independent_by_tags t prog p q a z (part v c, role, e) (part w d, role', f) x).1 (marks, path, avoids) in
      left_by_number t p q v w (part v c, role, refl) (part w d, role', refl) (independent_ahead t x p q flow)

  order_left : (u : Vertex) → IsOrder t u (Part v c) (Part w d) → StandsLeft (skeleton t.body) (at v) (at w)
  order_left u (x, a, b, (is, says, e), (is', says', f), flow, flow', left, whole) =
      subst (λ (y : Point). StandsLeft (skeleton t.body) (at v) y) f (subst (λ (y : Point). StandsLeft (skeleton t.body) y b) e left)

  -- the edge by its kind and its two ends
  edge_so : (e : Edge) (k : Kind) → IsEdgeOf t e → e.kind ≡ k → e.from ≡ Part v c → e.to ≡ Part w d → IsEdgeBy t k (Part v c) (Part w d)
  edge_so e k h is from to =
      subst (λ (y : Vertex). IsEdgeBy t k (Part v c) y) to (subst (λ (y : Vertex). IsEdgeBy t k y e.to) from (subst (λ (j : Kind). IsEdgeBy t j e.from e.to) is h))

  pub independent_to_right : IsProgram t → (e : Edge) (x : List ℕ) → IsEdgeOf t e → e.kind ≡ Independent x → e.from ≡ Part v c → e.to ≡ Part w d → StandsLeft (skeleton t.body) (at v) (at w)
  independent_to_right prog e x h is from to = independent_left prog x (edge_so e (Independent x) h is from to)

  pub order_to_right : (e : Edge) (u : Vertex) → IsEdgeOf t e → e.kind ≡ Order u → e.from ≡ Part v c → e.to ≡ Part w d → StandsLeft (skeleton t.body) (at v) (at w)
  order_to_right e u h is from to = order_left u (edge_so e (Order u) h is from to)
