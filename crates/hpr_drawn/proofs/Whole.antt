-- No number of what is told of a graph is a float.
use Rattle.std.proofs.Common.{◌≡◌, ℕ, Bool, true, false, ◌||◌, List, [], ◌∷◌, map, None, Option, Some, option_to_list, codes, refl, ap, ap₂, ◌∙◌}
use Rattle.std.specs.declared.cmp.Ordering.TheVariants.{Less, Equal, Greater}
use Rattle.std.specs.Cmp.Lexicographic.{slice_cmp}
use Rattle.std.specs.Ordering.{match_ordering, nat_cmp}
use Rattle.serde_json.specs.Data.{Data, Members, null, boolean, number, string, array, object, no_members, member, put}
use Rattle.serde_json.specs.View.{items_of}
use Rattle.serde_json.specs.Written.{has_float, items_have_float, members_have_float}
use Rattle.hpr_graph.specs.declared.vertex.Vertex.{Vertex}
use Rattle.hpr_graph.specs.declared.vertex.Vertex.TheVariants.{Entry, Init, Part, Final}
use Rattle.hpr_graph.specs.declared.edge.Kind.{Kind}
use Rattle.hpr_graph.specs.declared.edge.Kind.TheVariants.{Control, Independent, Carried, Order}
use Rattle.hpr_graph.specs.declared.edge.Edge.{Edge}
use Rattle.hpr_graph.specs.Graphs.{Graph, name_of}
use Rattle.hpr_report.specs.GraphJson.{edge_data, kind_data}
use Rattle.hpr_json.specs.Vertices.{vertex_data}
use Rattle.hpr_located.specs.Sources.{Standing, Spot, spot_of}
use Rattle.hpr_located.specs.Shown.{with_member, with_place, located_data}
use Rattle.hpr_drawn.specs.Told.{AreListed, AreTold, graph_object, names_data, told_data, told_graph}

either : (a b : Bool) → a ≡ false → b ≡ false → (a || b) ≡ false
either a b e f = ap₂ (λ (a b : Bool). a || b) e f

neither : (a b : Bool) → (a || b) ≡ false → (a ≡ false) × (b ≡ false)
neither true b e = absurd cc
neither false b e = (refl, e)

put_whole : (k : List ℕ) (d : Data) (ms : Members) → has_float d ≡ false → members_have_float ms ≡ false → members_have_float (put k d ms) ≡ false
put_whole k d no_members h m = either _ _ h refl
put_whole k d (member l e ms) h m =
    let parts = neither (has_float e) (members_have_float ms) m in
    elim (slice_cmp nat_cmp k l) as (λ o. members_have_float (match_ordering o (member k d (member l e ms)) (member l d ms) (member l e (put k d ms))) ≡ false) [
      | Less ↦ either _ _ h m
      | Equal ↦ either _ _ h parts.1
      | Greater ↦ either _ _ parts.0 (put_whole k d ms h parts.1)
    ]

with_whole : (k : List ℕ) (m d : Data) → has_float m ≡ false → has_float d ≡ false → has_float (with_member k m d) ≡ false
with_whole k m (object ms) h w = put_whole k m ms h w
with_whole k m null h w = w
with_whole k m (boolean b) h w = w
with_whole k m (number n) h w = w
with_whole k m (string s) h w = w
with_whole k m (array ds) h w = w

names_whole : (xs : List (List ℕ)) → items_have_float (items_of (map string xs)) ≡ false
names_whole [] = refl
names_whole (x ∷ xs) = names_whole xs

placed : (spot : Option Spot) (v : Vertex) → has_float (with_place spot (vertex_data v)) ≡ false
placed None Entry = refl
placed None (Init x) = refl
placed None (Part t c) = refl
placed None (Final x) = refl
placed (Some spot) Entry = refl
placed (Some spot) (Init x) = refl
placed (Some spot) (Part t c) = refl
placed (Some spot) (Final x) = refl

told_whole : (ss : List Standing) (v : Vertex) (xs : List (List ℕ)) → has_float (told_data ss v xs) ≡ false
told_whole ss v xs =
    let defined = names_data (option_to_list (name_of v)) in
    with_whole (codes "uses") (names_data xs) (with_member (codes "defines") defined (located_data ss v)) (names_whole xs)
    (with_whole (codes "defines") defined (located_data ss v) (names_whole (option_to_list (name_of v))) (placed (spot_of ss v) v))

vertices_whole : (ss : List Standing) (vs : List Vertex) (ds : List Data) → AreTold ss vs ds → items_have_float (items_of ds) ≡ false
vertices_whole ss [] [] h = refl
vertices_whole ss [] (d ∷ ds) h = absurd h
vertices_whole ss (v ∷ vs) [] h = absurd h
vertices_whole ss (v ∷ vs) (d ∷ ds) ((xs, uses, is), rest) = either _ _ (ap has_float is ∙ told_whole ss v xs) (vertices_whole ss vs ds rest)

kind_whole : (vs : List Vertex) (k : Kind) (from to : ℕ) → has_float (kind_data vs k from to) ≡ false
kind_whole vs (Control label) from to = refl
kind_whole vs (Independent x) from to = refl
kind_whole vs (Carried x w) from to = refl
kind_whole vs (Order u) from to = refl

edges_whole : (vs : List Vertex) (es : List Edge) → items_have_float (items_of (map (edge_data vs) es)) ≡ false
edges_whole vs [] = refl
edges_whole vs (e ∷ es) = either _ _ (kind_whole vs e.kind _ _) (edges_whole vs es)

module _ (ss : List Standing) (g : Graph) (es ds : List Data) (are : AreListed ss g es ds) where
  lists_whole : (items_have_float (items_of es) ≡ false) × (items_have_float (items_of ds) ≡ false)
  lists_whole = (
    ap (λ (xs : List Data). items_have_float (items_of xs)) are.edges_told ∙ edges_whole are.vertices are.edges,
    vertices_whole ss are.vertices ds are.told,
  )

  pub answer_whole : has_float (told_graph es ds) ≡ false
  answer_whole = either _ _ lists_whole.0 (either _ _ refl (either _ _ lists_whole.1 refl))

  pub object_whole : has_float (graph_object es ds) ≡ false
  object_whole = either _ _ lists_whole.0 (either _ _ lists_whole.1 refl)
