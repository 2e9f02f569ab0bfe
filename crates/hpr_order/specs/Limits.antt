-- What the items must be for any program to have them, and the trees that a graph allows.
--
-- one_more n               == the number above, if there is one
-- level_in slot n v        == how many parts stand around the slot, if there are at most n
-- is_unfit c               == what no part of a program says: expressions with more than MAX_OPERATORS
--                             operators together, or a wrong name
-- IsWithinLimits items     == at most MAX_PARTS parts, none says what is unfit, none stands below more than
--                             MAX_LEVELS levels
-- IsAllowedTree g items t  == t has each item once, in its slot, in an order that is asked; and the items are
--                             within the limits
-- AreOrdersOf g items orders == the orders are the preorders of exactly these trees, in lexicographic order
use Rattle.std.specs.Prelude.{◌≡◌, ℕ, zero, suc, ◌+◌, ◌-◌, ◌<◌, ◌≤◌, Bool, false, ◌||◌, Option, Some, None, List, map, length, IsSome}
use Rattle.hpr_terms.specs.declared.limits.TheConstants.{MAX_LEVELS, MAX_PARTS}
use Rattle.hpr_terms.specs.declared.tag.Tag.{Tag}
use Rattle.hpr_syntax.specs.declared.rows.Content.{Content}
use Rattle.hpr_syntax.specs.Shape.{says_large, is_wrong}
use Rattle.hpr_graph.specs.Graphs.{Graph}
use Rattle.hpr_forest.specs.Lists.{IsListOf}
use Rattle.hpr_forest.specs.Trees.{Tree, Slot, preorder}
use Rattle.hpr_forest.specs.ArrangedTrees.{IsArrangedTree, Earlier}
use Rattle.hpr_order.specs.declared.item.Item.{Item}
use Rattle.hpr_order.specs.Items.{IsItem, Asks, slot_at}

abbrev pub one_more : Option ℕ → Option ℕ
one_more None = None
one_more (Some n) = Some (n + 1)

abbrev pub level_in : (ℕ → Slot) → ℕ → Slot → Option ℕ
level_in slot n None = Some 0
level_in slot zero (Some at) = None
level_in slot (suc n) (Some at) = one_more (level_in slot n (slot at.0))

abbrev pub is_unfit : Content → Bool
is_unfit c = says_large c || is_wrong c

pub record IsWithinLimits (items : List Item) : Type 0 where
  pub parts : length items ≤ MAX_PARTS
  pub contents : (k : ℕ) (t : Tag) (c : Content) → IsItem items k t c → is_unfit c ≡ false
  pub levels : (k : ℕ) → k < length items → IsSome (level_in (slot_at items) (MAX_LEVELS - 1) (slot_at items k))

pub record IsAllowedTree (g : Graph) (items : List Item) (t : Tree) : Type 0 where
  pub limits : IsWithinLimits items
  pub arranged : IsArrangedTree (length items) (slot_at items) (Asks g items) t

abbrev pub AreOrdersOf : Graph → List Item → List (List ℕ) → Type 0
AreOrdersOf g items orders = (ts : List Tree) × (map preorder ts ≡ orders) × IsListOf Earlier (IsAllowedTree g items) ts
