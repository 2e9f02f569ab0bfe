-- The parts of a graph by their numbers.
--
-- IsPartAt g n t c       == the vertex with this number is the part t, which says c
-- ArePartsOf g numbers   == the numbers are those of all parts, each once
-- AreRanked g rank numbers == of two of them the earlier one's part stands before the other's in the rank
-- slot_from place label  == the slot of the item at this place, at the top where there is none
-- ArePlaces numbers places == the place of a number among these, for each number
-- slot_by places r       == where a vertex stands, by the places of the numbers: at the top, where its
--                           control edge comes from no part
-- IsItemAt g rs places n i == i is the part with the number n, with its slot
-- AreItemsAt g numbers items == the k-th item is the part with the k-th number
-- AreItemsOf g numbers list == the same, with their slots; each is an item of the graph with proper names and
--                              numbers
-- AreFinals g xs         == the names are those of the Final vertices, in ascending order, and variables
-- DirectsBy kind         == a link of this kind is an edge that directs
-- IsAskedBy places links s == one of these links directs and comes from the item s
-- AreAsked g items pairs == the pairs are those of items of which an edge that directs goes from the one to
--                           the other
use Rattle.std.specs.Prelude.{◌≡◌, ℕ, ◌<◌, ◌↔◌, Bool, Option, Some, None, List, All, Contains, length, slice_get}
use Rattle.hpr_terms.specs.Names.{IsVariable}
use Rattle.hpr_terms.specs.declared.tag.Tag.{Tag}
use Rattle.hpr_syntax.specs.declared.rows.Content.{Content}
use Rattle.hpr_graph.specs.declared.vertex.Vertex.{Vertex}
use Rattle.hpr_graph.specs.declared.vertex.Vertex.TheVariants.{Part, Final}
use Rattle.hpr_graph.specs.declared.link.LinkKind.{LinkKind}
use Rattle.hpr_graph.specs.declared.link.LinkKind.TheVariants.{Control, Independent, Carried, Order}
use Rattle.hpr_graph.specs.declared.link.Link.{Link}
use Rattle.hpr_graph.specs.Graphs.{Graph, IsOnce}
use Rattle.hpr_graph.specs.Numbered.{Numbered, graph_in}
use Rattle.hpr_graph.specs.Moves.{number_at}
use Rattle.hpr_graph.specs.InOrder.{Ascends}
use Rattle.hpr_graph.specs.Order.{name_cmp}
use Rattle.hpr_graph.specs.Rank.{StandsBefore}
use Rattle.hpr_forest.specs.Trees.{Slot}
use Rattle.hpr_order.specs.declared.item.Item.{Item}
use Rattle.hpr_order.specs.Items.{AreItems, AreSlots, IsItem, Asks}
use Rattle.hpr_order.specs.Arranging.{IsProperItem}

abbrev pub IsPartAt : Numbered → ℕ → Tag → Content → Type 0
IsPartAt g n t c = slice_get g.vertices n ≡ Some (Part t c)

pub record ArePartsOf (g : Numbered) (numbers : List ℕ) : Type 0 where
  pub parts : (k n : ℕ) → slice_get numbers k ≡ Some n → (t : Tag) × (c : Content) × IsPartAt g n t c
  pub all : (n : ℕ) (t : Tag) (c : Content) → IsPartAt g n t c → (k : ℕ) × (slice_get numbers k ≡ Some n)
  pub once : IsOnce numbers

abbrev pub AreRanked : Numbered → List Vertex → List ℕ → Type 0
AreRanked g rank numbers =
    (k j n m : ℕ) (v w : Vertex) → k < j → slice_get numbers k ≡ Some n → slice_get numbers j ≡ Some m
    → slice_get g.vertices n ≡ Some v → slice_get g.vertices m ≡ Some w → StandsBefore rank v w

abbrev pub slot_from : Option ℕ → Bool → Slot
slot_from None b = None
slot_from (Some k) b = Some (k, b)

abbrev pub slot_by : List (Option ℕ) → Option (ℕ × Bool) → Slot
slot_by places None = None
slot_by places (Some (from, b)) = slot_from (number_at places from) b

abbrev pub ArePlaces : List ℕ → List (Option ℕ) → Type 0
ArePlaces numbers places = (n k : ℕ) → (number_at places n ≡ Some k) ↔ (slice_get numbers k ≡ Some n)

abbrev pub IsItemAt : Numbered → List (Option (ℕ × Bool)) → List (Option ℕ) → ℕ → Item → Type 0
IsItemAt g rs places n i =
    IsPartAt g n i.tag i.content × ((r : Option (ℕ × Bool)) × (slice_get rs n ≡ Some r) × (i.slot ≡ slot_by places r))

pub record AreItemsAt (g : Numbered) (numbers : List ℕ) (items : List Item) : Type 0 where
  pub count : length items ≡ length numbers
  pub parts : (k n : ℕ) (t : Tag) (c : Content) → slice_get numbers k ≡ Some n → IsItem items k t c ↔ IsPartAt g n t c

pub record AreItemsOf (g : Numbered) (numbers : List ℕ) (list : List Item) : Type 0 where
  pub items : AreItems (graph_in g) list
  pub at : AreItemsAt g numbers list
  pub slots : AreSlots list
  pub proper : All IsProperItem list

pub record AreFinals (g : Graph) (xs : List (List ℕ)) : Type 0 where
  pub names : (x : List ℕ) → Contains xs x ↔ g.vertex (Final x)
  pub ascending : Ascends name_cmp xs
  pub proper : All IsVariable xs

abbrev pub DirectsBy : LinkKind → Type 0
DirectsBy (Control label) = ⊥
DirectsBy Independent = Unit {0}
DirectsBy (Carried w) = ⊥
DirectsBy (Order u) = Unit {0}

abbrev pub IsAskedBy : List (Option ℕ) → List Link → ℕ → Type 0
IsAskedBy places links s = (l : Link) × Contains links l × DirectsBy l.kind × (number_at places l.from ≡ Some s)

abbrev pub AreAsked : Graph → List Item → List (ℕ × ℕ) → Type 0
AreAsked g items pairs = (s t : ℕ) → Contains pairs (s, t) ↔ Asks g items s t
