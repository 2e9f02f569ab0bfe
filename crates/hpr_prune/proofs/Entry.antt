-- Entry leads to each vertex: so a slice of at least one vertex has it.
use Rattle.std.proofs.Common.{◌≡◌, Bool, true, List, [], ◌∷◌, None, refl, ap, sym, inl, inr}
use Rattle.hpr_terms.specs.declared.tag.Tag.{Tag}
use Rattle.hpr_syntax.specs.declared.rows.Content.{Content}
use Rattle.hpr_syntax.specs.Tree.{Tree}
use Rattle.hpr_syntax.specs.Skeleton.{Distinct, skeleton}
use Rattle.hpr_syntax.specs.Nests.{Says}
use Rattle.hpr_graph.specs.declared.vertex.Vertex.{Vertex}
use Rattle.hpr_graph.specs.declared.vertex.Vertex.TheVariants.{Entry, Init, Part, Final}
use Rattle.hpr_graph.specs.declared.edge.Kind.TheVariants.{Control}
use Rattle.hpr_graph.specs.declared.edge.Edge.{Edge}
use Rattle.hpr_graph.specs.Slices.{ReachesOne}
use Rattle.hpr_graph.specs.ProgramGraph.{IsVertexOf, graph_of}
use Rattle.hpr_closure.proofs.WholeSlices.{reaches_by}
use Rattle.hpr_paths.proofs.Says.{says_one, says_of_standing, standing_of_says}
use Rattle.hpr_meaning.proofs.Chains.{Chain, top, below, chain_of, chain_first}

module _ (p : Tree) (dp : Distinct (skeleton p.body)) (S : Vertex → Type 0) where
  abbrev control : Bool → Vertex → Vertex → Edge
  control label from to = record { to = to; from = from; kind = Control label }

  abbrev Reaches : Vertex → Type 0
  Reaches v = ReachesOne (graph_of p) S v

  over : (from to : Vertex) (label : Bool) → (graph_of p).edge (control label from to) → Reaches to → Reaches from
  over from to label h r = reaches_by (graph_of p) S from (control label from to ∷ []) to r (h, tt, refl, refl)

  part_reached : (t : Tag) (n : List Tag) → Chain p.body t n → (c : Content) → Says p.body t c → Reaches (Part t c) → Reaches Entry
  part_reached t _ (top r h a) c s reached =
      let e : r.content ≡ c = says_one p.body dp t r.content c (says_of_standing p.body [] None t r h) s in
      over Entry (Part t c) true (inl (refl, refl, (r, h, e, a))) reached
  part_reached t _ (below {nest = n} r w b h a ch) c s reached =
      let above = chain_first p.body w n ch in
      let says = says_of_standing p.body [] None w above.0 above.1 in
      let e : r.content ≡ c = says_one p.body dp t r.content c (says_of_standing p.body [] None t r h) s in
      part_reached w n ch above.0.content says
      (over (Part w above.0.content) (Part t c) b (inr (w, above.0.content, refl, says, (t, r, h, ap (λ z. Part t z) (sym e), a))) reached)

  pub entry_reaches : (v : Vertex) → IsVertexOf p v → Reaches v → Reaches Entry
  entry_reaches Entry h r = r
  entry_reaches (Init x) h r = over Entry (Init x) true (inl (refl, refl, h)) r
  entry_reaches (Final x) h r = over Entry (Final x) true (inl (refl, refl, h)) r
  entry_reaches (Part t c) h r = let g = standing_of_says p.body [] None t c h in part_reached t g.0.nest (chain_of p.body t g.0 g.1) c h r
