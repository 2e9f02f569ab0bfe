-- No number of an outcome is a float.
use Rattle.std.proofs.Common.{◌≡◌, ℕ, Bool, false, ◌||◌, Option, Some, None, List, [], ◌∷◌, map, refl, ap₂}
use Rattle.serde_json.specs.Data.{Data}
use Rattle.serde_json.specs.View.{items_of}
use Rattle.serde_json.specs.Written.{has_float, items_have_float}
use Rattle.hpr_terms.specs.declared.tag.Tag.{Tag}
use Rattle.hpr_graph.specs.InOrder.{vertex_at}
use Rattle.hpr_graph.specs.Numbered.{Numbered}
use Rattle.hpr_graph.specs.declared.vertex.Vertex.{Vertex}
use Rattle.hpr_graph.specs.declared.vertex.Vertex.TheVariants.{Entry, Init, Part, Final}
use Rattle.hpr_json.specs.Answers.{no_program_data, program_data, spent_data}
use Rattle.hpr_json.specs.Vertices.{vertex_data}
use Rattle.hpr_located.specs.Shown.{located_data, with_place}
use Rattle.hpr_located.specs.Sources.{Spot, Standing, spot_of}
use Rattle.hpr_rebuild.specs.declared.clash.FirstClash.{FirstClash}
use Rattle.hpr_outcome.specs.declared.outcome.Sought.{Sought}
use Rattle.hpr_told.specs.Clashes.{clash_data, numbered_data, with_clash}
use Rattle.hpr_told.specs.Outcomes.{renamed_data, with_sought}

either : (a b : Bool) → a ≡ false → b ≡ false → (a || b) ≡ false
either a b e f = ap₂ (λ (a b : Bool). a || b) e f

items : {X : Type 0} (f : X → Data) → ((x : X) → has_float (f x) ≡ false) → (xs : List X) → items_have_float (items_of (map f xs)) ≡ false
items f whole [] = refl
items f whole (x ∷ xs) = either _ _ (whole x) (items f whole xs)

placed : (spot : Option Spot) (v : Vertex) → has_float (with_place spot (vertex_data v)) ≡ false
placed None Entry = refl
placed None (Init x) = refl
placed None (Part t c) = refl
placed None (Final x) = refl
placed (Some (file, l)) Entry = refl
placed (Some (file, l)) (Init x) = refl
placed (Some (file, l)) (Part t c) = refl
placed (Some (file, l)) (Final x) = refl

module _ (ss : List Standing) where
  vertex : (v : Vertex) → has_float (located_data ss v) ≡ false
  vertex v = placed (spot_of ss v) v

  renamed : (r : Vertex × Tag) → has_float (renamed_data ss r) ≡ false
  renamed (v, t) = either _ _ (vertex v) refl

  numbered : (g : Numbered) (n : ℕ) → has_float (numbered_data ss g n) ≡ false
  numbered g n = vertex (vertex_at g.vertices n)

  clash : (g : Numbered) (f : FirstClash) → has_float (clash_data ss g f) ≡ false
  clash g f = either _ _ (items (numbered_data ss g) (numbered g) f.front.items) (either _ _ (numbered g f.part) refl)

module _ (ss : List Standing) (s : Sought) (g : Data) (whole : has_float g ≡ false) where
  new_tags : items_have_float (items_of (map (renamed_data ss) s.renamed.items)) ≡ false
  new_tags = items (renamed_data ss) (renamed ss) s.renamed.items

  pub merged_whole : (text : List ℕ) → has_float (with_sought ss s g (program_data text)) ≡ false
  merged_whole text = either _ _ whole (either _ _ new_tags refl)

  pub none_whole : (o : Option FirstClash) (n : ℕ) → has_float (with_sought ss s g (with_clash ss s.graph o (no_program_data n))) ≡ false
  none_whole None n = either _ _ whole (either _ _ new_tags refl)
  none_whole (Some f) n = either _ _ (clash ss s.graph f) (either _ _ whole (either _ _ new_tags refl))

  pub spent_whole : (o : Option FirstClash) → has_float (with_sought ss s g (with_clash ss s.graph o (spent_data s.tries))) ≡ false
  spent_whole None = either _ _ whole (either _ _ new_tags refl)
  spent_whole (Some f) = either _ _ (clash ss s.graph f) (either _ _ whole (either _ _ new_tags refl))
