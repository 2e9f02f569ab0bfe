-- Where each vertex other than Entry is possible, exactly the control edge from Entry goes into each Init and each Final vertex.
use Rattle.std.proofs.Common.{◌≡◌, ◌≢◌, ◌↔◌, ℕ, Bool, true, List, refl, subst, sym}
use Rattle.hpr_graph.specs.declared.vertex.Vertex.{Vertex}
use Rattle.hpr_graph.specs.declared.vertex.Vertex.TheVariants.{Entry, Init, Part, Final}
use Rattle.hpr_graph.specs.declared.edge.Kind.TheVariants.{Control}
use Rattle.hpr_graph.specs.Arrangements.{IsOuter, edge_into}
use Rattle.hpr_graph.specs.Graphs.{Graph}
use Rattle.hpr_order.specs.Regions.{AllPossible, Allows, Controls, IsPossible}

abbrev FromEntry : Vertex → Bool → Type 0
FromEntry from label = (from ≡ Entry) × (label ≡ true)

init_allowed : (from : Vertex) (label : Bool) (x : List ℕ) → Allows from label (Init x) → FromEntry from label
init_allowed Entry label x (truth, differs) = (refl, truth)
init_allowed (Init y) label x h = absurd h
init_allowed (Part t c) label x (says, (u, d, is)) = absurd cc
init_allowed (Final y) label x h = absurd h

final_allowed : (from : Vertex) (label : Bool) (x : List ℕ) → Allows from label (Final x) → FromEntry from label
final_allowed Entry label x (truth, differs) = (refl, truth)
final_allowed (Init y) label x h = absurd h
final_allowed (Part t c) label x (says, (u, d, is)) = absurd cc
final_allowed (Final y) label x h = absurd h

outer_allowed : (v from : Vertex) (label : Bool) → IsOuter v → Allows from label v → FromEntry from label
outer_allowed Entry from label h allows = absurd h
outer_allowed (Init x) from label h allows = init_allowed from label x allows
outer_allowed (Part t c) from label h allows = absurd h
outer_allowed (Final x) from label h allows = final_allowed from label x allows

not_entry : (v : Vertex) → IsOuter v → v ≢ Entry
not_entry Entry h = absurd h
not_entry (Init x) h = λ e. absurd cc
not_entry (Part t c) h = absurd h
not_entry (Final x) h = λ e. absurd cc

module _ (g : Graph) (v : Vertex) (outer : IsOuter v) (possible : IsPossible g v) where
  from_entry : (from : Vertex) (label : Bool) → Controls g from label v → FromEntry from label
  from_entry from label h = outer_allowed v from label outer (possible.allowed from label h)

  entry_controls : Controls g Entry true v
  entry_controls =
      let (from, label, h, only) = possible.one in
      let (is, truth) = from_entry from label h in
      subst (λ (w : Vertex). Controls g w true v) is (subst (λ (b : Bool). Controls g from b v) truth h)

  one_control : (from : Vertex) (label : Bool) → Controls g from label v ↔ FromEntry from label
  one_control from label = (
    from_entry from label,
    λ (is, truth). subst (λ (w : Vertex). Controls g w label v) (sym is) (subst (λ (b : Bool). Controls g Entry b v) (sym truth) entry_controls),
  )

pub outer_controls : (g : Graph) → AllPossible g → (v from : Vertex) (label : Bool) → IsOuter v → g.vertex v
    → g.edge (edge_into from v (Control label)) ↔ ((from ≡ Entry) × (label ≡ true))
outer_controls g all v from label outer there = one_control g v outer (all v there (not_entry v outer)) from label
