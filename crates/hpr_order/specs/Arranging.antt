-- What the search for arrangements is given and what it has found.
--
-- IsRanking g rank       == the rank has every part of g, and nothing twice
-- AreIssued g issued     == the serial of each part of g is at least 1 and at most its author's issued number
-- AreFirstNumbers n ns   == the numbers 0, 1, .. below n
-- IsPreorderOf g order p == the parts of p in preorder are the vertices of g with these numbers
-- IsProperItem i == numbers are in range and names are variables
-- orders_in orders       == the orders that are still to come
-- coming next orders     == the next order, if there is one, and those behind it
-- programs_of items issued finals orders == their programs
-- IsProgramOrder items issued finals order == the order has nothing twice and items alone, and its program is
--                                             a program
-- ArePrograms items issued finals orders == each order is so
-- IsSearching items issued finals orders == the same, and each slot is at the top or of an item
use Rattle.std.specs.Prelude.{◌≡◌, ℕ, ◌<◌, ◌≤◌, All, Option, Some, None, List, [], ◌∷◌, map, Contains, length, slice_get, Vec}
use Rattle.std.specs.Global.{Global}
use Rattle.hpr_terms.specs.declared.tag.Tag.{Tag}
use Rattle.hpr_syntax.specs.declared.rows.Content.{Content}
use Rattle.hpr_syntax.specs.Proper.{IsProperTag, IsProperContent}
use Rattle.hpr_syntax.specs.Issued.{Issued, issued_to}
use Rattle.hpr_syntax.specs.Tree.{Tree}
use Rattle.hpr_syntax.specs.Shape.{IsProgram}
use Rattle.hpr_graph.specs.declared.vertex.Vertex.{Vertex}
use Rattle.hpr_graph.specs.declared.vertex.Vertex.TheVariants.{Part}
use Rattle.hpr_graph.specs.Graphs.{Graph, IsOnce}
use Rattle.hpr_graph.specs.Numbered.{Numbered}
use Rattle.hpr_graph.specs.Rank.{parts_of}
use Rattle.hpr_forest.specs.Forest.{IsDistinct}
use Rattle.hpr_order.specs.declared.item.Item.{Item}
use Rattle.hpr_order.specs.Items.{AreSlots, program_of}

pub record IsRanking (g : Graph) (rank : List Vertex) : Type 0 where
  pub all : (t : Tag) (c : Content) → g.vertex (Part t c) → Contains rank (Part t c)
  pub once : IsOnce rank

abbrev pub AreIssued : Graph → Issued → Type 0
AreIssued g issued = (t : Tag) (c : Content) → g.vertex (Part t c) → (1 ≤ t.serial) × (t.serial ≤ issued_to t.author issued)

abbrev pub AreFirstNumbers : ℕ → List ℕ → Type 0
AreFirstNumbers n ns = (length ns ≡ n) × ((k : ℕ) → k < n → slice_get ns k ≡ Some k)

abbrev pub IsPreorderOf : Numbered → List ℕ → Tree → Type 0
IsPreorderOf g order p = map (slice_get g.vertices) order ≡ map Some (parts_of p)

abbrev pub IsProperItem : Item → Type 0
IsProperItem i = IsProperTag i.tag × IsProperContent i.content

abbrev pub orders_in : Option (List (List ℕ)) → List (List ℕ)
orders_in None = []
orders_in (Some orders) = orders

abbrev pub coming : Option (Vec ℕ Global) → Option (List (List ℕ)) → List (List ℕ)
coming None orders = []
coming (Some next) orders = next.items ∷ orders_in orders

abbrev pub programs_of : List Item → Issued → List (List ℕ) → List (List ℕ) → List Tree
programs_of items issued finals orders = map (program_of items issued finals) orders

pub record IsProgramOrder (items : List Item) (issued : Issued) (finals : List (List ℕ)) (order : List ℕ) : Type 0 where
  pub once : IsDistinct order
  pub within : All (λ c. c < length items) order
  pub program : IsProgram (program_of items issued finals order)

abbrev pub ArePrograms : List Item → Issued → List (List ℕ) → List (List ℕ) → Type 0
ArePrograms items issued finals orders = (order : List ℕ) → Contains orders order → IsProgramOrder items issued finals order

pub record IsSearching (items : List Item) (issued : Issued) (finals : List (List ℕ)) (orders : List (List ℕ)) : Type 0 where
  pub slots : AreSlots items
  pub programs : ArePrograms items issued finals orders
