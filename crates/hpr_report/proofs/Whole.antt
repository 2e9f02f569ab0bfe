-- No number of a graph's JSON is a float.
use Rattle.std.proofs.Common.{◌≡◌, ℕ, Bool, false, ◌||◌, List, [], ◌∷◌, map, refl, ap₂}
use Rattle.serde_json.specs.Data.{Data, string}
use Rattle.serde_json.specs.View.{items_of}
use Rattle.serde_json.specs.Written.{has_float, items_have_float}
use Rattle.hpr_graph.specs.declared.vertex.Vertex.{Vertex}
use Rattle.hpr_graph.specs.declared.edge.Kind.{Kind}
use Rattle.hpr_graph.specs.declared.edge.Kind.TheVariants.{Control, Independent, Carried, Order}
use Rattle.hpr_graph.specs.declared.edge.Edge.{Edge}
use Rattle.hpr_report.specs.GraphTexts.{vertex_words}
use Rattle.hpr_report.specs.GraphJson.{kind_data, edge_data, graph_data}

whole_items : {X : Type 0} (f : X → Data) → ((x : X) → has_float (f x) ≡ false) → (xs : List X) → items_have_float (items_of (map f xs)) ≡ false
whole_items f whole [] = refl
whole_items f whole (x ∷ xs) = ap₂ (λ (a b : Bool). a || b) (whole x) (whole_items f whole xs)

whole_kind : (vs : List Vertex) (k : Kind) (from to : ℕ) → has_float (kind_data vs k from to) ≡ false
whole_kind vs (Control label) from to = refl
whole_kind vs (Independent x) from to = refl
whole_kind vs (Carried x w) from to = refl
whole_kind vs (Order u) from to = refl

pub graph_whole : (vs : List Vertex) (es : List Edge) → has_float (graph_data vs es) ≡ false
graph_whole vs es =
    ap₂ (λ (a b : Bool). a || (b || false)) (whole_items (edge_data vs) (λ e. whole_kind vs e.kind _ _) es) (whole_items (λ v. string (vertex_words v)) (λ v. refl) vs)
