-- Which parts of a graph keep their tags.
--
-- is_taken taken t          == the tag t is among those that were taken, each by its author and its serial
-- IsTaken taken t           == the same as a proposition
-- IsFreeAmong g P taken v   == v is a part of g that has P, and its tag wasn't taken
-- HasTagAmong g P t         == some part of g with the tag t has P
-- AreKeptMore g P taken old new == exactly the parts that are free among those that have P are marked more
-- AreTakenMore g P old new  == exactly the tags of the parts of g that have P were taken more
-- AreKeptBelow vs keep n    == each part among the first n vertices is marked
-- AreKeptBy hs g keep       == exactly the parts of g are marked that keep their tags by the graphs hs
use Rattle.std.specs.Prelude.{◌≡◌, ℕ, ◌<◌, ◌==◌, ◌&&◌, ◌↔◌, ◌⊎◌, Bool, true, Some, List, slice_get}
use Rattle.std.specs.List.{list_any}
use Rattle.hpr_terms.specs.declared.tag.Tag.{Tag}
use Rattle.hpr_search.specs.Marks.{IsMarked}
use Rattle.hpr_graph.specs.declared.vertex.Vertex.{Vertex}
use Rattle.hpr_graph.specs.Fits.{IsPart}
use Rattle.hpr_graph.specs.Graphs.{Graph}
use Rattle.hpr_graph.specs.Numbered.{Numbered, IsMarkedVertex, graph_in}
use Rattle.hpr_graph.specs.Split.{HasTag, KeepsTag}

abbrev pub is_taken : List (ℕ × ℕ) → Tag → Bool
is_taken taken t = list_any (λ k. (t.author == k.0) && (t.serial == k.1)) taken

abbrev pub IsTaken : List (ℕ × ℕ) → Tag → Type 0
IsTaken taken t = is_taken taken t ≡ true

abbrev pub IsFreeAmong : Graph → (Vertex → Type 0) → List (ℕ × ℕ) → Vertex → Type 0
IsFreeAmong g P taken v = (t : Tag) × HasTag g t v × P v × ¬ IsTaken taken t

abbrev pub HasTagAmong : Graph → (Vertex → Type 0) → Tag → Type 0
HasTagAmong g P t = (v : Vertex) × HasTag g t v × P v

abbrev pub AreKeptMore : Numbered → (Vertex → Type 0) → List (ℕ × ℕ) → List Bool → List Bool → Type 0
AreKeptMore g P taken old new =
    (v : Vertex) → IsMarkedVertex g new v ↔ (IsMarkedVertex g old v ⊎ IsFreeAmong (graph_in g) P taken v)

abbrev pub AreTakenMore : Numbered → (Vertex → Type 0) → List (ℕ × ℕ) → List (ℕ × ℕ) → Type 0
AreTakenMore g P old new = (t : Tag) → IsTaken new t ↔ (IsTaken old t ⊎ HasTagAmong (graph_in g) P t)

abbrev pub AreKeptBelow : List Vertex → List Bool → ℕ → Type 0
AreKeptBelow vs keep n = (at : ℕ) (v : Vertex) → at < n → slice_get vs at ≡ Some v → IsPart v → IsMarked keep at

abbrev pub AreKeptBy : List Graph → Numbered → List Bool → Type 0
AreKeptBy hs g keep =
    (v : Vertex) (t : Tag) → HasTag (graph_in g) t v → IsMarkedVertex g keep v ↔ KeepsTag hs (graph_in g) t v
