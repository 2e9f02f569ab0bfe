-- The parts of a graph as items, with their orders.
--
-- AreChoices g items choices == the whole lists by these tables are the preorders of arrangements; where
--                               there are no tables, there is no arrangement
-- AreRankedParts g rank o == o has all parts in the order of the rank, by their numbers and as items, and
--                            such tables
-- IsOrdered g numbers o == o has the parts with these numbers as items, and as orders those that are
--                          preorders of arrangements
-- AreAskedSiblings g items asked == the rows have what the edges of g that direct say of siblings
-- IsListedProgram g items issued p == p is the program of the items as they are listed, with the names of the
--                                     Final vertices of g
use Rattle.std.specs.Prelude.{◌≡◌, ℕ, Option, Some, None, List, [], length, vec_len}
use Rattle.hpr_syntax.specs.Issued.{Issued}
use Rattle.hpr_syntax.specs.Tree.{Tree}
use Rattle.hpr_graph.specs.declared.vertex.Vertex.{Vertex}
use Rattle.hpr_graph.specs.Graphs.{Graph}
use Rattle.hpr_graph.specs.Numbered.{Numbered, graph_in}
use Rattle.hpr_forest.specs.declared.blocks.Blocks.{Blocks}
use Rattle.hpr_forest.specs.Choices.{IsWhole}
use Rattle.hpr_forest.specs.Lists.{LexLess, IsListOf}
use Rattle.hpr_forest.specs.Remaining.{can_of}
use Rattle.hpr_order.specs.declared.item.Item.{Item}
use Rattle.hpr_order.specs.declared.ordered.OrderedItems.{OrderedItems}
use Rattle.hpr_order.specs.declared.ordered.RankedParts.{RankedParts}
use Rattle.hpr_order.specs.Arranging.{AreFirstNumbers, orders_in}
use Rattle.hpr_order.specs.Items.{program_of}
use Rattle.hpr_order.specs.Limits.{AreOrdersOf}
use Rattle.hpr_order.specs.Tables.{AreLifted}
use Rattle.hpr_order.specs.Numbers.{AreAsked, AreFinals, AreItemsOf, ArePartsOf, AreRanked}

abbrev pub AreChoices : Graph → List Item → Option Blocks → Type 0
AreChoices g items None = AreOrdersOf g items []
AreChoices g items (Some b) =
    (vec_len b.parents ≡ length items)
    × ((orders : List (List ℕ)) → IsListOf LexLess (IsWhole (can_of b) (vec_len b.parents)) orders → AreOrdersOf g items orders)

pub record AreRankedParts (g : Numbered) (rank : List Vertex) (o : RankedParts) : Type 0 where
  pub parts : ArePartsOf g o.numbers.items
  pub ranked : AreRanked g rank o.numbers.items
  pub items : AreItemsOf g o.numbers.items o.items.items
  pub choices : AreChoices (graph_in g) o.items.items o.choices

pub record IsOrdered (g : Numbered) (numbers : List ℕ) (o : OrderedItems) : Type 0 where
  pub items : AreItemsOf g numbers o.items.items
  pub orders : AreOrdersOf (graph_in g) o.items.items (orders_in o.orders)

abbrev pub AreAskedSiblings : Graph → List Item → List (List ℕ) → Type 0
AreAskedSiblings g items asked = (pairs : List (ℕ × ℕ)) × AreAsked g items pairs × AreLifted items pairs asked

abbrev pub IsListedProgram : Graph → List Item → Issued → Tree → Type 0
IsListedProgram g items issued p = (xs : List (List ℕ)) (ns : List ℕ) → AreFinals g xs → AreFirstNumbers (length items) ns → program_of items issued xs ns ≡ p
