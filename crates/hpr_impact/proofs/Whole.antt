-- The members of reasons, and that no number of an answer is a float.
use Rattle.std.proofs.Common.{◌≡◌, ℕ, Bool, false, is_none, codes, ◌||◌, Option, Some, None, List, [], ◌∷◌, map, refl, ap₂}
use Rattle.serde_json.specs.Data.{Data, boolean, object, member, no_members, put}
use Rattle.serde_json.specs.View.{items_of}
use Rattle.serde_json.specs.Written.{has_float, items_have_float}
use Rattle.hpr_graph.specs.declared.vertex.Vertex.{Vertex}
use Rattle.hpr_graph.specs.declared.vertex.Vertex.TheVariants.{Entry, Init, Part, Final}
use Rattle.hpr_graph.specs.declared.edge.Kind.{Kind}
use Rattle.hpr_graph.specs.declared.edge.Kind.TheVariants.{Control, Independent, Carried, Order}
use Rattle.hpr_graph.specs.declared.edge.Edge.{Edge}
use Rattle.hpr_report.specs.GraphJson.{number_data}
use Rattle.hpr_json.specs.Vertices.{vertex_data}
use Rattle.hpr_located.specs.Shown.{located_data, located_edge, located_kind, with_place}
use Rattle.hpr_located.specs.Sources.{Spot, Standing, spot_of}
use Rattle.hpr_impact.specs.declared.why.Reason.{Reason}
use Rattle.hpr_impact.specs.Shown.{by_member, listed_data, reason_data, reasons_data}
use Rattle.hpr_impact.specs.Private.Members.{by_members}

either : (a b : Bool) → a ≡ false → b ≡ false → (a || b) ≡ false
either a b e f = ap₂ (λ (a b : Bool). a || b) e f

items : {X : Type 0} (f : X → Data) → ((x : X) → has_float (f x) ≡ false) → (xs : List X) → items_have_float (items_of (map f xs)) ≡ false
items f whole [] = refl
items f whole (x ∷ xs) = either _ _ (whole x) (items f whole xs)

placed : (spot : Option Spot) (v : Vertex) → has_float (with_place spot (vertex_data v)) ≡ false
placed None Entry = refl
placed None (Init x) = refl
placed None (Part t c) = refl
placed None (Final x) = refl
placed (Some (file, l)) Entry = refl
placed (Some (file, l)) (Init x) = refl
placed (Some (file, l)) (Part t c) = refl
placed (Some (file, l)) (Final x) = refl

-- the object of a reason
abbrev told_data : List Standing → Option Edge → Data → ℕ → Data
told_data ss o point n =
    object (by_member ss o (member (codes "direct") (boolean (is_none o)) (member (codes "point") point (member (codes "root") (number_data n) no_members))))

-- as its members are put
put_told : (ss : List Standing) (o : Option Edge) (point : Data) (n : ℕ) → object (put (codes "root") (number_data n) (put (codes "point") point (by_members ss o))) ≡ told_data ss o point n
put_told ss None point n = refl
put_told ss (Some e) point n = refl

pub put_reason : (ss : List Standing) (r : Reason) → object (put (codes "root") (number_data r.root) (put (codes "point") (located_data ss r.point) (by_members ss r.by))) ≡ reason_data ss r
put_reason ss r = put_told ss r.by (located_data ss r.point) r.root

module _ (ss : List Standing) where
  vertex : (v : Vertex) → has_float (located_data ss v) ≡ false
  vertex v = placed (spot_of ss v) v

  kind : (k : Kind) (from to : Data) → has_float from ≡ false → has_float to ≡ false → has_float (located_kind ss k from to) ≡ false
  kind (Control label) from to f t = either _ _ f (either _ _ t refl)
  kind (Independent x) from to f t = either _ _ f (either _ _ t refl)
  kind (Carried x w) from to f t = either _ _ f (either _ _ (vertex w) (either _ _ t refl))
  kind (Order u) from to f t = either _ _ (vertex u) (either _ _ f (either _ _ t refl))

  by : (e : Edge) → has_float (located_edge ss e) ≡ false
  by e = kind e.kind _ _ (vertex e.from) (vertex e.to)

  told : (o : Option Edge) (point : Data) (n : ℕ) → has_float point ≡ false → has_float (told_data ss o point n) ≡ false
  told None point n p = either _ _ p refl
  told (Some e) point n p = either _ _ (by e) (either _ _ p refl)

  reason : (r : Reason) → has_float (reason_data ss r) ≡ false
  reason r = told r.by (located_data ss r.point) r.root (vertex r.point)

  pub vertices_whole : (vs : List Vertex) → has_float (listed_data (map (located_data ss) vs)) ≡ false
  vertices_whole vs = either _ _ (items (located_data ss) vertex vs) refl

  pub reasons_whole : (rs : List Reason) → has_float (reasons_data ss rs) ≡ false
  reasons_whole rs = either _ _ (items (reason_data ss) reason rs) refl
