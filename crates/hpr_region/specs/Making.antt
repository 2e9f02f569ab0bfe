-- What the tables by which items clash say of the items themselves.
--
-- AreDefinedIn names items      == each name that an item defines is one of these
-- AreSlotsOf items slots       == the slot of each item
-- AreVariablesOf names items vs == the number of the name that each item defines, where it defines one
-- AreUsesOf names items rows   == the numbers of the names that each item uses
-- IsReadFrom places links a    == one of these links is an independent flow edge from the item a
use Rattle.std.specs.Prelude.{◌≡◌, ℕ, Option, Some, None, List, Contains, Vec, get_or, slice_get}
use Rattle.std.specs.Global.{Global}
use Rattle.hpr_syntax.specs.Rows.{assigned}
use Rattle.hpr_graph.specs.declared.link.LinkKind.TheVariants.{Independent}
use Rattle.hpr_graph.specs.declared.link.Link.{Link}
use Rattle.hpr_graph.specs.Moves.{number_at}
use Rattle.hpr_forest.specs.Blocks.{row_at}
use Rattle.hpr_forest.specs.Trees.{Slot}
use Rattle.hpr_order.specs.declared.item.Item.{Item}
use Rattle.hpr_region.specs.Tables.{AreUsed, IsVariable}

abbrev pub AreDefinedIn : List (List ℕ) → List Item → Type 0
AreDefinedIn names items = (k : ℕ) (i : Item) (x : List ℕ) → slice_get items k ≡ Some i → assigned i.content ≡ Some x → Contains names x

abbrev pub AreSlotsOf : List Item → List Slot → Type 0
AreSlotsOf items slots = (k : ℕ) (i : Item) → slice_get items k ≡ Some i → get_or slots k None ≡ i.slot

abbrev pub AreVariablesOf : List (List ℕ) → List Item → List (Option ℕ) → Type 0
AreVariablesOf names items vs = (k : ℕ) (i : Item) → slice_get items k ≡ Some i → IsVariable names (get_or vs k None) (assigned i.content)

abbrev pub AreUsesOf : List (List ℕ) → List Item → List (Vec ℕ Global) → Type 0
AreUsesOf names items rows = (k : ℕ) (i : Item) → slice_get items k ≡ Some i → AreUsed names (row_at (slice_get rows k)) i.content

abbrev pub IsReadFrom : List (Option ℕ) → List Link → ℕ → Type 0
IsReadFrom places links a = (l : Link) × Contains links l × (l.kind ≡ Independent) × (number_at places l.from ≡ Some a)
