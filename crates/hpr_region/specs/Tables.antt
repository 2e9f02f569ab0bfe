-- What the tables of a search say of the parts of a graph.
--
-- IsVariable names v o   == v is the number of the name among these, where there is a name, and none else
-- AreVariables names rows contents == the number of the name that each of these defines
-- AreUsed names row c    == the numbers in the row are those of the names, among these, that c uses
-- IsReadBy g v w         == an independent flow edge goes from v to w
-- AreReaders g numbers rows == for each item those into which an independent flow edge goes from it
-- AreFlowsBy g numbers names t == the tables say of the parts with these numbers where they stand, what they
--                                 define and use, and what reads it
-- AreFlowsOf g numbers t == the same, by the numbers of some names
use Rattle.std.specs.Prelude.{◌≡◌, ℕ, ◌↔◌, Option, Some, None, true, List, Contains, length, vec_len, slice_get}
use Rattle.hpr_terms.specs.declared.tag.Tag.{Tag}
use Rattle.hpr_syntax.specs.declared.rows.Content.{Content}
use Rattle.hpr_syntax.specs.Contents.{UsesIn}
use Rattle.hpr_syntax.specs.Rows.{assigned}
use Rattle.hpr_graph.specs.declared.vertex.Vertex.{Vertex}
use Rattle.hpr_graph.specs.declared.vertex.Vertex.TheVariants.{Part}
use Rattle.hpr_graph.specs.declared.edge.Kind.TheVariants.{Independent}
use Rattle.hpr_graph.specs.Graphs.{Graph, IsOnce}
use Rattle.hpr_graph.specs.Numbered.{Numbered, graph_in}
use Rattle.hpr_graph.specs.Arrangements.{edge_into}
use Rattle.hpr_graph.specs.Clashes.{StandInOneBlock}
use Rattle.hpr_search.specs.Rows.{numbers_at}
use Rattle.hpr_order.specs.Numbers.{IsPartAt}
use Rattle.hpr_region.specs.declared.flows.Flows.{Flows}
use Rattle.hpr_region.specs.Flows.{readers_of, same_block, uses_of, variable_of}

abbrev pub IsVariable : List (List ℕ) → Option ℕ → Option (List ℕ) → Type 0
IsVariable names None o = o ≡ None
IsVariable names (Some r) o = (x : List ℕ) × (o ≡ Some x) × (slice_get names r ≡ Some x)

abbrev pub AreUsed : List (List ℕ) → List ℕ → Content → Type 0
AreUsed names row c = (r : ℕ) → Contains row r ↔ ((x : List ℕ) × (slice_get names r ≡ Some x) × UsesIn c x)

abbrev pub IsReadBy : Graph → Vertex → Vertex → Type 0
IsReadBy g v w = (x : List ℕ) × g.edge (edge_into v w (Independent x))

abbrev pub IsItemOf : Numbered → List ℕ → ℕ → Tag → Content → Type 0
IsItemOf g numbers k t c = (n : ℕ) × (slice_get numbers k ≡ Some n) × IsPartAt g n t c

abbrev pub AreReaders : Numbered → List ℕ → List (List ℕ) → Type 0
AreReaders g numbers rows =
    (a b : ℕ) (s t : Tag) (c d : Content) → IsItemOf g numbers a s c → IsItemOf g numbers b t d
    → Contains (numbers_at rows a) b ↔ IsReadBy (graph_in g) (Part s c) (Part t d)

pub record AreFlowsBy (g : Numbered) (numbers : List ℕ) (names : List (List ℕ)) (f : Flows) : Type 0 where
  pub count : vec_len f.slots ≡ length numbers
  pub once : IsOnce names
  pub blocks : (a b : ℕ) (s t : Tag) (c d : Content) → IsItemOf g numbers a s c → IsItemOf g numbers b t d
      → (same_block f a b ≡ true) ↔ StandInOneBlock (graph_in g) (Part s c) (Part t d)
  pub variables : (k : ℕ) (t : Tag) (c : Content) → IsItemOf g numbers k t c → IsVariable names (variable_of f k) (assigned c)
  pub uses : (k : ℕ) (t : Tag) (c : Content) → IsItemOf g numbers k t c → AreUsed names (uses_of f k) c
  pub readers : (a b : ℕ) (s t : Tag) (c d : Content) → IsItemOf g numbers a s c → IsItemOf g numbers b t d
      → Contains (readers_of f a) b ↔ IsReadBy (graph_in g) (Part s c) (Part t d)

abbrev pub AreFlowsOf : Numbered → List ℕ → Flows → Type 0
AreFlowsOf g numbers f = (names : List (List ℕ)) × AreFlowsBy g numbers names f
