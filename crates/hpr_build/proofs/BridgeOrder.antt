-- The order links are the order edges of the program.
use Rattle.std.proofs.Common.{◌≡◌, ℕ, inl, inr, Some, List, [], refl, sym, ap, ◌∙◌, subst}
use Rattle.hpr_terms.specs.declared.tag.Tag.{Tag}
use Rattle.hpr_syntax.specs.Skeleton.{Point, at, skeleton}
use Rattle.hpr_syntax.specs.Places.{StandsLeft, Parted}
use Rattle.hpr_syntax.specs.Shape.{IsProgram}
use Rattle.hpr_syntax.specs.Tree.{Tree}
use Rattle.hpr_paths.specs.Spots.{Spot, point_of, defined_at}
use Rattle.hpr_paths.specs.Successors.{spots}
use Rattle.hpr_paths.proofs.Stands.{SpotIn, end_of}
use Rattle.hpr_paths.proofs.Sound.{part_in}
use Rattle.hpr_paths.proofs.Left.{numbers_of_left}
use Rattle.hpr_paths.proofs.Nested.{says_of_number}
use Rattle.hpr_graph.specs.declared.vertex.Vertex.{Vertex}
use Rattle.hpr_graph.specs.declared.edge.Kind.TheVariants as kind
use Rattle.hpr_graph.specs.declared.edge.Edge.{Edge}
use Rattle.hpr_graph.specs.declared.link.LinkKind.TheVariants as link
use Rattle.hpr_graph.specs.declared.link.Link.{Link}
use Rattle.hpr_graph.specs.Numbered.{IsEdgeAt}
use Rattle.hpr_graph.specs.ProgramGraph.{Defines, Reads, HasFlow, IsOrder, IsEdgeOf}
use Rattle.hpr_build.specs.Places.{Place}
use Rattle.hpr_build.specs.Links.{part_vertex, vertices_of, IsOrderLink}
use Rattle.hpr_build.proofs.PlaceIn.{PartAt}
use Rattle.hpr_build.proofs.PlaceLaws.{role_of_part, number_of_part}
use Rattle.hpr_build.proofs.PartedLaws.{before_by_tags}
use Rattle.hpr_build.proofs.BridgeNumbers.{part_of_defined}
use Rattle.hpr_build.proofs.BridgeVertices.{vertex_at_part}
use Rattle.hpr_build.proofs.BridgePoints.{defines_number, target_reads, reads_target}
use Rattle.hpr_build.proofs.BridgeFlow.{flow_of_reach, reach_of_flow}

-- what stands to the left or right of another is a part
part_standing : (t : Tree) (n : ℕ) (s : Spot) (d : Point) → SpotIn t.body 1 (end_of t) [] n s → d ≡ point_of s.role → (v : Tag) × (d ≡ at v)
part_standing t n s d h is = let (v, c, role) = part_in t.body 1 (end_of t) [] n s h in (v, is ∙ ap point_of role)

pub left_tags : (t : Tree) (d u : Point) → StandsLeft (skeleton t.body) d u → ((v : Tag) × (d ≡ at v)) × ((w : Tag) × (u ≡ at w))
left_tags t d u h =
    let k = numbers_of_left t.body 1 (end_of t) [] d u h in
    (part_standing t k.first k.one d k.stands k.point, part_standing t k.second k.other u k.stands_too k.point_too)

-- a vertex with a flow to another reads the name
reads_of_flow : (t : Tree) (x : List ℕ) (from to : Vertex) → HasFlow t x from to → (z : Point) × Reads t x to z
reads_of_flow t x from to (inl (a, z, marks, (defines, reads, path), avoids)) = (z, reads)
reads_of_flow t x from to (inr (w, (a, z, marks, l, c, (defines, reads, path), is, says, around, there))) = (z, reads)

module _ (t : Tree) (inits : List (List ℕ)) (prog : IsProgram t) where
  abbrev Vs : List Vertex
  Vs = vertices_of t inits

  abbrev LinkEdge : ℕ → Link → Type 0
  LinkEdge to l = (e : Edge) × IsEdgeAt Vs to l e × IsEdgeOf t e

  defined_part : (x : List ℕ) (d : ℕ) → defined_at (spots t) d ≡ Some x → (p : Place) × PartAt t d p × Defines t x (part_vertex p) (at p.tag)
  defined_part x d h =
      let (p, k, is) = part_of_defined t d x h in
      (p, k, (is, says_of_number t d p.tag p.content (role_of_part t d p k), refl))

  -- an order link is an order edge of the program
  pub order_edge : (to : ℕ) (l : Link) → IsOrderLink t to l → LinkEdge to l
  order_edge to l (x, u, v, is, target, def_from, def_to, less, apart, reach_from, reach_to) =
      let (p, at_p, p_defines) = defined_part x l.from def_from in
      let (q, at_q, q_defines) = defined_part x to def_to in
      let (w, z, w_is, reads, nz) = target_reads t inits prog x u v target in
      let np = number_of_part t l.from p at_p in
      let nq = number_of_part t to q at_q in
      let (left, whole) = (before_by_tags t prog l.from to p.tag q.tag np nq).0 (less, apart) in
      let same : l ≡ record { from = l.from; kind = link.Order v } = λ i. record { from = l.from; kind = is i } in
      subst (LinkEdge to) (sym same) (
        record { to = part_vertex q; from = part_vertex p; kind = kind.Order w },
        (vertex_at_part t inits to q at_q, vertex_at_part t inits l.from p at_p, (w, w_is, refl)),
        (
          x,
          at p.tag,
          at q.tag,
          p_defines,
          q_defines,
          flow_of_reach t inits prog x l.from u (part_vertex p) w (at p.tag) z p_defines reads np nz reach_from,
          flow_of_reach t inits prog x to u (part_vertex q) w (at q.tag) z q_defines reads nq nz reach_to,
          left,
          whole,
        ),
      )

  abbrev EdgeLink : Edge → Type 0
  EdgeLink e = (to : ℕ) × (l : Link) × IsOrderLink t to l × IsEdgeAt Vs to l e

  order_link_by : (w from to : Vertex) (x : List ℕ) (v u : Tag) → Defines t x from (at v) → Defines t x to (at u) → HasFlow t x from w → HasFlow t x to w → StandsLeft (skeleton t.body) (at v) (at u) → ¬ Parted (skeleton t.body) (at v) (at u)
      → EdgeLink (record { to = to; from = from; kind = kind.Order w })
  order_link_by w from to x v u def_from def_to flow_from flow_to left whole =
      let (z, reads) = reads_of_flow t x from w flow_from in
      let (d, d_defines, from_is, nd) = defines_number t inits x v from def_from in
      let (e, e_defines, to_is, ne) = defines_number t inits x u to def_to in
      let (n, m, target, w_is, nz) = reads_target t inits x w z reads in
      let (less, apart) = (before_by_tags t prog d e v u nd ne).1 (left, whole) in (
        e,
        record { from = d; kind = link.Order m },
        (
          x,
          n,
          m,
          refl,
          target,
          d_defines,
          e_defines,
          less,
          apart,
          reach_of_flow t inits prog x d n from w (at v) z def_from reads nd nz flow_from,
          reach_of_flow t inits prog x e n to w (at u) z def_to reads ne nz flow_to,
        ),
        (to_is, from_is, (w, w_is, refl)),
      )

  -- an order edge of the program is an order link
  pub order_link : (w from to : Vertex) → IsOrder t w from to → EdgeLink (record { to = to; from = from; kind = kind.Order w })
  order_link w from to (x, a, b, def_from, def_to, flow_from, flow_to, left, whole) =
      let ((v, is), (u, js)) = left_tags t a b left in
      order_link_by w from to x v u (subst (Defines t x from) is def_from) (subst (Defines t x to) js def_to) flow_from flow_to
      (subst (λ (c : Point). StandsLeft (skeleton t.body) (at v) c) js (subst (λ (c : Point). StandsLeft (skeleton t.body) c b) is left))
      (subst (λ (c : Point). ¬ Parted (skeleton t.body) (at v) c) js (subst (λ (c : Point). ¬ Parted (skeleton t.body) c b) is whole))
