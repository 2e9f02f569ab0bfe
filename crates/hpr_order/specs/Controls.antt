-- Control edges by the numbers of their vertices.
--
-- label_of kind        == the label of a control edge; none for another kind
-- IsOnlyControl row from label == the row has the control edge with this label from the vertex with this
--                                 number, and no other control edge
-- HasControl row from  == the row has a control edge from the vertex with this number
-- AreControlled g rows == for each vertex a row of exactly the vertices into which a control edge goes from
--                         it
-- IsPushedBy old links n new == the rows with the number n more in the row of each vertex from which one of
--                               these links is a control edge
-- AreReached g marks   == there is a mark for each vertex, and exactly those are marked to which control
--                         edges lead from Entry
use Rattle.std.specs.Prelude.{◌≡◌, ℕ, Bool, ◌↔◌, ◌⊎◌, Option, Some, None, List, Contains, length, slice_get}
use Rattle.hpr_search.specs.Marks.{IsMarked}
use Rattle.hpr_search.specs.Rows.{numbers_at}
use Rattle.hpr_graph.specs.declared.vertex.Vertex.{Vertex}
use Rattle.hpr_graph.specs.declared.link.LinkKind.{LinkKind}
use Rattle.hpr_graph.specs.declared.link.LinkKind.TheVariants.{Control, Independent, Carried, Order}
use Rattle.hpr_graph.specs.declared.link.Link.{Link}
use Rattle.hpr_graph.specs.Numbered.{Numbered, row_of, graph_in}
use Rattle.hpr_order.specs.Regions.{control_link, IsUnderEntry}

abbrev pub label_of : LinkKind → Option Bool
label_of (Control label) = Some label
label_of Independent = None
label_of (Carried w) = None
label_of (Order u) = None

abbrev pub IsOnlyControl : List Link → ℕ → Bool → Type 0
IsOnlyControl row from label =
    Contains row (control_link from label) × ((other : ℕ) (mark : Bool) → Contains row (control_link other mark) → (other ≡ from) × (mark ≡ label))

abbrev pub HasControl : List Link → ℕ → Type 0
HasControl row from = (label : Bool) × Contains row (control_link from label)

pub record AreControlled (g : Numbered) (rows : List (List ℕ)) : Type 0 where
  pub count : length rows ≡ length g.vertices
  pub exact : (from to : ℕ) → Contains (numbers_at rows from) to ↔ HasControl (row_of g to) from

abbrev pub IsPushedBy : List (List ℕ) → List Link → ℕ → List (List ℕ) → Type 0
IsPushedBy old links n new =
    (from to : ℕ) → Contains (numbers_at new from) to ↔ (Contains (numbers_at old from) to ⊎ (HasControl links from × (to ≡ n)))

pub record AreReached (g : Numbered) (marks : List Bool) : Type 0 where
  pub count : length marks ≡ length g.vertices
  pub exact : (at : ℕ) (v : Vertex) → slice_get g.vertices at ≡ Some v → IsMarked marks at ↔ IsUnderEntry (graph_in g) v
