-- No number of an answer is a float.
use Rattle.std.proofs.Common.{◌≡◌, ℕ, ◌+◌, ℤ, pos, negsuc, Bool, false, ◌||◌, List, [], ◌∷◌, map, refl, ap₂}
use Rattle.std.specs.FinMap.{entries}
use Rattle.serde_json.specs.Data.{Data}
use Rattle.serde_json.specs.View.{items_of}
use Rattle.serde_json.specs.Written.{has_float, items_have_float}
use Rattle.hpr_syntax.specs.declared.value.Value.{Value}
use Rattle.hpr_syntax.specs.declared.value.Value.TheVariants as value
use Rattle.hpr_syntax.specs.Run.{Outcome, ends, faults, more}
use Rattle.hpr_graph.specs.declared.vertex.Vertex.{Vertex}
use Rattle.hpr_graph.specs.declared.vertex.Vertex.TheVariants.{Entry, Init, Part, Final}
use Rattle.hpr_graph.specs.declared.edge.Kind.{Kind}
use Rattle.hpr_graph.specs.declared.edge.Kind.TheVariants.{Control, Independent, Carried, Order}
use Rattle.hpr_graph.specs.declared.edge.Edge.{Edge}
use Rattle.hpr_graph.specs.declared.conflict.ManyConflict.{ManyConflict}
use Rattle.hpr_report.specs.GraphJson as by_places
use Rattle.hpr_json.specs.Vertices.{vertex_data, kind_data, edge_data, conflict_data, many_conflict_data}
use Rattle.hpr_json.specs.Answers.{conflicts_data, graph_data, points_data}
use Rattle.hpr_graph.specs.Conflicts.{number_of}
use Rattle.hpr_verify.specs.declared.verdict.Verdict.{Verdict}
use Rattle.hpr_verify.specs.declared.verdict.Verdict.TheVariants as verdict
use Rattle.hpr_json.specs.Verdicts.{verdict_data}
use Rattle.hpr_json.specs.Outcomes.{integer_data, element_data, value_data, final_data, outcome_data}

either : (a b : Bool) → a ≡ false → b ≡ false → (a || b) ≡ false
either a b e f = ap₂ (λ (a b : Bool). a || b) e f

items : {X : Type 0} (f : X → Data) → ((x : X) → has_float (f x) ≡ false) → (xs : List X) → items_have_float (items_of (map f xs)) ≡ false
items f whole [] = refl
items f whole (x ∷ xs) = either _ _ (whole x) (items f whole xs)

vertex : (v : Vertex) → has_float (vertex_data v) ≡ false
vertex Entry = refl
vertex (Init x) = refl
vertex (Part t c) = refl
vertex (Final x) = refl

kind : (k : Kind) (from to : Data) → has_float from ≡ false → has_float to ≡ false → has_float (kind_data k from to) ≡ false
kind (Control label) from to f t = either _ _ f (either _ _ t refl)
kind (Independent x) from to f t = either _ _ f (either _ _ t refl)
kind (Carried x w) from to f t = either _ _ f (either _ _ (vertex w) (either _ _ t refl))
kind (Order u) from to f t = either _ _ (vertex u) (either _ _ f (either _ _ t refl))

edge : (e : Edge) → has_float (edge_data e) ≡ false
edge e = kind e.kind _ _ (vertex e.from) (vertex e.to)

conflict : (n : ℕ) (v : Vertex) (e : Edge) → has_float (conflict_data (n, v, e)) ≡ false
conflict n v e = either _ _ (edge e) (either _ _ (vertex v) refl)

pub conflicts_whole : (cs : List ManyConflict) → has_float (conflicts_data cs) ≡ false
conflicts_whole cs = either _ _ (items many_conflict_data (λ c. conflict c.variant c.point c.edge) cs) refl

pub points_whole : (vs : List Vertex) → has_float (points_data vs) ≡ false
points_whole vs = either _ _ (items vertex_data vertex vs) refl

placed : (vs : List Vertex) (k : Kind) (from to : ℕ) → has_float (by_places.kind_data vs k from to) ≡ false
placed vs (Control label) from to = refl
placed vs (Independent x) from to = refl
placed vs (Carried x w) from to = refl
placed vs (Order u) from to = refl

pub graph_whole : (vs : List Vertex) (es : List Edge) → has_float (graph_data vs es) ≡ false
graph_whole vs es = either _ _ (items (by_places.edge_data vs) (λ e. placed vs e.kind _ _) es) (either _ _ (items vertex_data vertex vs) refl)

pub verdict_whole : (v : Verdict) → has_float (verdict_data v) ≡ false
verdict_whole verdict.Same = refl
verdict_whole (verdict.Conflict c) = either _ _ (conflict (number_of c.side + 1) c.point c.edge) refl
verdict_whole (verdict.Vertex v h) = either _ _ (vertex v) refl
verdict_whole (verdict.Edge e h) = either _ _ (edge e) refl

integer : (z : ℤ) → has_float (integer_data z) ≡ false
integer (pos n) = refl
integer (negsuc n) = refl

element : (e : ℕ × ℤ) → has_float (element_data e) ≡ false
element (n, z) = either _ _ (integer z) refl

worth : (v : Value) → has_float (value_data v) ≡ false
worth (value.Number z) = integer z
worth (value.List zs) = items integer_data integer zs
worth (value.Array es) = either _ _ (items element_data element (entries es)) refl

final : (x : List ℕ × Value) → has_float (final_data x) ≡ false
final (x, v) = either _ _ (worth v) refl

pub outcome_whole : (o : Outcome) → has_float (outcome_data o) ≡ false
outcome_whole (ends finals steps) = either _ _ (items final_data final finals) refl
outcome_whole (faults tag fault steps) = refl
outcome_whole (more steps) = refl
