-- Chains of steps are lists of control and flow edges.
use Rattle.std.proofs.Common.{◌≡◌, ℕ, Some, List, [], ◌∷◌, slice_get, refl, sym, ap, ◌∙◌}
use Rattle.hpr_graph.specs.declared.vertex.Vertex.{Vertex}
use Rattle.hpr_graph.specs.declared.edge.Edge.{Edge}
use Rattle.hpr_graph.specs.Numbered.{Numbered, IsNumbered, graph_in}
use Rattle.hpr_graph.specs.Slices.{LeadsTo}
use Rattle.hpr_graph.proofs.Lists.{some_inj}
use Rattle.hpr_slice.specs.Steps.{AreSteps, Chain}
use Rattle.hpr_slice.proofs.Walks.{edge_of, of_edge}

module _ (g : Numbered) (k : IsNumbered g) (steps : List (ℕ × ℕ)) (are : AreSteps g steps) where
  pub chain_leads : (x : ℕ) (via : List ℕ) (y : ℕ) (v w : Vertex) → Chain steps x via y → slice_get g.vertices x ≡ Some v → slice_get g.vertices y ≡ Some w → (es : List Edge) × LeadsTo (graph_in g) v es w
  chain_leads x [] y v w chain at_x at_y = ([], some_inj v w (sym at_x ∙ ap (slice_get g.vertices) chain ∙ at_y))
  chain_leads x (c ∷ via) y v w chain at_x at_y =
      let (e, has, leads, at_c, at_from) = edge_of g k c x ((are x c).0 chain.0) in
      let (es, after) = chain_leads c via y e.to w chain.1 at_c at_y in
      (e ∷ es, (has, leads, some_inj e.from v (sym at_from ∙ at_x), after))

  pub leads_chain : (x : ℕ) (es : List Edge) (v w : Vertex) → LeadsTo (graph_in g) v es w → slice_get g.vertices x ≡ Some v → (y : ℕ) × (via : List ℕ) × (slice_get g.vertices y ≡ Some w) × Chain steps x via y
  leads_chain x [] v w leads at_x = (x, [], at_x ∙ ap Some leads, refl)
  leads_chain x (e ∷ es) v w (has, leads, is, rest) at_x =
      let (c, at_c, source) = of_edge g k x v e has leads is at_x in
      let (y, via, at_y, chain) = leads_chain c es e.to w rest at_c in
      (y, c ∷ via, at_y, ((are x c).1 source, chain))
