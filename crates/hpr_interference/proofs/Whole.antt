-- No number of an answer is a float.
use Rattle.std.proofs.Common.{◌≡◌, ℕ, Bool, false, ◌||◌, Option, Some, None, List, [], ◌∷◌, map, refl, ap₂}
use Rattle.std.specs.Prelude.{zip}
use Rattle.serde_json.specs.Data.{Data}
use Rattle.serde_json.specs.View.{items_of}
use Rattle.serde_json.specs.Written.{has_float, items_have_float}
use Rattle.hpr_graph.specs.declared.conflict.ManyConflict.{ManyConflict}
use Rattle.hpr_graph.specs.declared.vertex.Vertex.{Vertex}
use Rattle.hpr_graph.specs.declared.vertex.Vertex.TheVariants.{Entry, Init, Part, Final}
use Rattle.hpr_graph.specs.declared.edge.Kind.{Kind}
use Rattle.hpr_graph.specs.declared.edge.Kind.TheVariants.{Control, Independent, Carried, Order}
use Rattle.hpr_graph.specs.declared.edge.Edge.{Edge}
use Rattle.hpr_report.specs.GraphJson.{number_data}
use Rattle.hpr_json.specs.Vertices.{vertex_data}
use Rattle.hpr_located.specs.Shown.{located_data, located_edge, located_kind, with_place}
use Rattle.hpr_located.specs.Sources.{Spot, Standing, spot_of}
use Rattle.hpr_interference.specs.Answers.{answer_data, conflict_data, group_data, own_first}
use Rattle.hpr_interference.specs.Groups.{Group}

either : (a b : Bool) → a ≡ false → b ≡ false → (a || b) ≡ false
either a b e f = ap₂ (λ (a b : Bool). a || b) e f

items : {X : Type 0} (f : X → Data) → ((x : X) → has_float (f x) ≡ false) → (xs : List X) → items_have_float (items_of (map f xs)) ≡ false
items f whole [] = refl
items f whole (x ∷ xs) = either _ _ (whole x) (items f whole xs)

placed : (spot : Option Spot) (v : Vertex) → has_float (with_place spot (vertex_data v)) ≡ false
placed None Entry = refl
placed None (Init x) = refl
placed None (Part t c) = refl
placed None (Final x) = refl
placed (Some (file, l)) Entry = refl
placed (Some (file, l)) (Init x) = refl
placed (Some (file, l)) (Part t c) = refl
placed (Some (file, l)) (Final x) = refl

module _ (ss : List Standing) where
  vertex : (v : Vertex) → has_float (located_data ss v) ≡ false
  vertex v = placed (spot_of ss v) v

  kind : (k : Kind) (from to : Data) → has_float from ≡ false → has_float to ≡ false → has_float (located_kind ss k from to) ≡ false
  kind (Control label) from to f t = either _ _ f (either _ _ t refl)
  kind (Independent x) from to f t = either _ _ f (either _ _ t refl)
  kind (Carried x w) from to f t = either _ _ f (either _ _ (vertex w) (either _ _ t refl))
  kind (Order u) from to f t = either _ _ (vertex u) (either _ _ f (either _ _ t refl))

  edge : (e : Edge) → has_float (located_edge ss e) ≡ false
  edge e = kind e.kind _ _ (vertex e.from) (vertex e.to)

module _ (ss : List Standing) where
  conflict : (p : ManyConflict × ℕ) → has_float (conflict_data ss p) ≡ false
  conflict (c, n) = either _ _ (edge (own_first ss c.variant) c.edge) (either _ _ (vertex (own_first ss c.variant) c.point) refl)

  group : (g : Group) → has_float (group_data ss g) ≡ false
  group g = either _ _ (items number_data (λ n. refl) g.places) (either _ _ (edge (own_first ss g.variant) g.edge) refl)

  pub answer_whole : (cs : List ManyConflict) (ns : List ℕ) (gs : List Group) → has_float (answer_data ss cs ns gs) ≡ false
  answer_whole cs ns gs = either _ _ (items (conflict_data ss) conflict (zip cs ns)) (either _ _ (items (group_data ss) group gs) refl)
