-- Where a change is the only one, the changed program's graph is the merged graph.
use Rattle.std.proofs.Common.{◌≡◌, ℕ, inl, inr, Option, List, [], ◌∷◌, refl, sym, subst}
use Rattle.hpr_terms.specs.declared.tag.Tag.{Tag}
use Rattle.hpr_syntax.specs.Initial.{UsedBy}
use Rattle.hpr_syntax.specs.Paths.{IsUndisturbed}
use Rattle.hpr_syntax.specs.Shape.{IsProgram}
use Rattle.hpr_syntax.specs.Skeleton.{Point, enter, at, exit, skeleton}
use Rattle.hpr_syntax.specs.Tree.{Tree}
use Rattle.hpr_graph.specs.declared.vertex.Vertex.{Vertex}
use Rattle.hpr_graph.specs.declared.vertex.Vertex.TheVariants.{Entry, Init, Part, Final}
use Rattle.hpr_graph.specs.declared.edge.Kind.{Kind}
use Rattle.hpr_graph.specs.declared.edge.Kind.TheVariants as kind
use Rattle.hpr_graph.specs.declared.edge.Edge.{Edge}
use Rattle.hpr_graph.specs.Graphs.{Graph, IsWithin, Same}
use Rattle.hpr_graph.specs.Answer.{graphs_of, merged_of_all}
use Rattle.hpr_graph.specs.Points.{IsInit, IsShared, IsAffected, IsPreservedBy, changed}
use Rattle.hpr_graph.specs.ProgramGraph.{Reads, IsEdgeBy, IsIndependent, graph_of}
use Rattle.hpr_graph.specs.Slices.{Leads, ReachesOne, slice_of, slice_at}
use Rattle.hpr_graph.proofs.Laws.{same_itself, same_turned, same_from_within, within_from_same, within_then, second_within, reaches_within, vertices_map}
use Rattle.hpr_paths.proofs.DirectWays.{encloses_in}
use Rattle.hpr_paths.proofs.Programs.{enter_outside}
use Rattle.hpr_closure.proofs.ProgramFinite.{program_finite}
use Rattle.hpr_closure.proofs.ProgramWhole.{program_whole, read_is, flow_at, control_to}
use Rattle.hpr_closure.proofs.Reached.{shared_decided}
use Rattle.hpr_closure.proofs.WholeSlices.{edge_inside, use_inside}
use Rattle.hpr_engine.specs.OneSide.{IsOnlyChange}
use Rattle.hpr_engine.proofs.OneSide.{all_share, merged_within, mine_within}

-- each vertex leads to one that is no Init vertex
abbrev IsReader : Tree → Vertex → Vertex → Type 0
IsReader t v s = (graph_of t).vertex s × (¬ IsInit s) × ReachesOne (graph_of t) (λ z. z ≡ s) v

itself : (t : Tree) (v : Vertex) → (graph_of t).vertex v → ¬ IsInit v → (s : Vertex) × IsReader t v s
itself t v there other = (v, (there, other, (v, [], refl, refl)))

reads_not_init : (t : Tree) (x : List ℕ) (v : Vertex) (z : Point) → Reads t x v z → ¬ IsInit v
reads_not_init t x v z reads (y, is) = subst (λ (w : Vertex). Reads t x w z) is reads

reader_at : (t : Tree) (x : List ℕ) (v : Vertex) (z : Point) (marks : List (Option Tag)) → IsUndisturbed t.body x enter z marks → Reads t x v z → (s : Vertex) × IsReader t (Init x) s
reader_at t x v z marks path reads =
    let flow : IsIndependent t x (Init x) v = (enter, z, marks, ((refl, refl), reads, path), λ w around. absurd (enter_outside (skeleton t.body) (encloses_in (skeleton t.body) enter z w around).0)) in
    let e : Edge = record { to = v; from = Init x; kind = kind.Independent x } in
    (v, (read_is t x v z reads, reads_not_init t x v z reads, (v, e ∷ [], refl, (flow, tt, refl, refl))))

init_reader : (t : Tree) (x : List ℕ) (a : Point) (marks : List (Option Tag)) → IsUndisturbed t.body x enter a marks → UsedBy t x a → (s : Vertex) × IsReader t (Init x) s
init_reader t x enter marks path h = absurd h
init_reader t x (at w) marks path (c, says, uses) = reader_at t x (Part w c) (at w) marks path (uses, says, refl)
init_reader t x exit marks path named = reader_at t x (Final x) exit marks path (refl, named, refl)

reader : (t : Tree) (v : Vertex) → (graph_of t).vertex v → (s : Vertex) × IsReader t v s
reader t Entry h = itself t Entry h (λ (x, is). absurd cc)
reader t (Init x) (a, marks, path, used) = init_reader t x a marks path used
reader t (Part l c) h = itself t (Part l c) h (λ (x, is). absurd cc)
reader t (Final x) h = itself t (Final x) h (λ (y, is). absurd cc)

-- slices of one vertex in slices of several
one_of : (g : Graph) (S : Vertex → Type 0) (v : Vertex) → S v → IsWithin (slice_at g v) (slice_of g S)
one_of g S v one =
    let up : (w : Vertex) → ReachesOne g (λ s. s ≡ v) w → ReachesOne g S w =
    reaches_within g g (λ s. s ≡ v) S (within_from_same g g (same_itself g)) (λ s e. subst S (sym e) one) in (
      λ w (has, r). (has, up w r),
      λ e (has, inside). (has, vertices_map (ReachesOne g (λ s. s ≡ v)) (ReachesOne g S) up e inside),
    )

-- where only v was changed, its graph is the merged graph
module _ (base v : Tree) (vs : List Tree) (only : IsOnlyChange base vs v) (is : IsProgram base) (is_v : IsProgram v) where
  abbrev G : Graph
  G = graph_of base

  abbrev H : Graph
  H = graph_of v

  abbrev M : Graph
  M = merged_of_all base vs

  abbrev Preserved : Graph
  Preserved = slice_of G (IsPreservedBy G (graphs_of vs))

  -- the merged graph has the slice of a shared point, as all variants share it, and that of any other one, as it is affected
  shared_has : (s : Vertex) → ¬ IsInit s → G.vertex s → IsShared G H s → IsWithin (slice_at G s) M
  shared_has s other there share =
      within_then (slice_at G s) Preserved M
      (one_of G (IsPreservedBy G (graphs_of vs)) s (other, there, all_share base v vs only.0 s there share)) (second_within (changed G (graphs_of vs)) Preserved)

  point_has : (s : Vertex) → H.vertex s → ¬ IsInit s → IsWithin (slice_at H s) M
  point_has s there other = elim (shared_decided H G (program_finite v) (program_finite base) (program_whole v is_v) (program_whole base is) s there) [
    | inl (has, same) ↦
        within_then (slice_at H s) (slice_at G s) M (within_from_same (slice_at H s) (slice_at G s) same)
        (shared_has s other has (there, same_turned (slice_at H s) (slice_at G s) same))
    | inr alone ↦ within_then (slice_at H s) (slice_of H (IsAffected H G)) M (one_of H (IsAffected H G) s (there, alone)) (mine_within base v vs only)
  ]

  has_vertex : (w : Vertex) → H.vertex w → M.vertex w
  has_vertex w h = let (s, (there, other, reach)) = reader v w h in (point_has s there other).0 w (h, reach)

  leading : (e : Edge) → H.edge e → Leads e.kind → H.vertex e.to → M.edge e
  leading e h l to =
      let (s, (there, other, reach)) = reader v e.to to in
      (point_has s there other).1 e (h, edge_inside H (program_whole v is_v).loops (λ z. z ≡ s) e h l reach)

  -- both ends of an order edge lead to its shared use
  ordered : (e : Edge) (u : Vertex) → H.edge e → e.kind ≡ kind.Order u → H.vertex u → ¬ IsInit u → M.edge e
  ordered e u h is_order there other =
      (point_has u there other).1 e (h, use_inside H (program_whole v is_v).loops (λ z. z ≡ u) (program_whole v is_v).uses e u h is_order (u, [], refl, refl))

  has_edge : (e : Edge) (k : Kind) → e.kind ≡ k → IsEdgeBy v k e.from e.to → M.edge e
  has_edge e (kind.Control label) same h = leading e (subst (λ (k : Kind). IsEdgeBy v k e.from e.to) (sym same) h) (subst Leads (sym same) tt) (control_to v label e.from e.to h)
  has_edge e (kind.Independent x) same h =
      let (a, z, defines, reads) = flow_at v x e.from e.to (inl h) in
      leading e (subst (λ (k : Kind). IsEdgeBy v k e.from e.to) (sym same) h) (subst Leads (sym same) tt) (read_is v x e.to z reads)
  has_edge e (kind.Carried x w) same h =
      let (a, z, defines, reads) = flow_at v x e.from e.to (inr (w, h)) in
      leading e (subst (λ (k : Kind). IsEdgeBy v k e.from e.to) (sym same) h) (subst Leads (sym same) tt) (read_is v x e.to z reads)
  has_edge e (kind.Order u) same (x, a, b, defines, defines_too, flow, flow_too, left, together) =
      let (c, z, sets, reads) = flow_at v x e.from u flow in
      ordered e u (subst (λ (k : Kind). IsEdgeBy v k e.from e.to) (sym same) (x, a, b, defines, defines_too, flow, flow_too, left, together)) same (read_is v x u z reads)
      (reads_not_init v x u z reads)

  pub only_whole : Same H M
  only_whole = same_from_within H M (has_vertex, λ e h. has_edge e e.kind refl h) (merged_within base v vs only is is_v)
