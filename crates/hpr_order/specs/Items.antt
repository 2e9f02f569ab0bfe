-- The parts of a graph as items, numbered in some order, and the programs that orders of items are.
--
-- slot_in item              == where this item stands
-- slot_at items k           == where the item k stands: at the top, or in the first (true) or the second
--                              block of another item
-- IsItem items k t c        == the item k is the part t, which says c
-- IsSource items v from label == the control edge into a part of the slot v comes so: from Entry, labelled
--                                true, at the top; else from the item's part
-- AreItems g items          == each part of g is one item; the control edge into it comes from its slot,
--                              which its item may have
-- AreSlots items            == each slot is at the top or of one of the items
-- Asks g items s t          == an edge of g that directs goes from the item s to the item t
-- said t c first second rest == the block that begins with the part t, which says c
-- with_part item c blocks v == the block in the slot v, where this item, which has the number c, stands
--                              before these blocks
-- block_at items order v    == the block in the slot v, where the items stand in this order
-- program_of items issued finals order == the program of the items in this order
use Rattle.std.specs.Prelude.{◌≡◌, ℕ, ◌<◌, ◌↔◌, Bool, true, false, if◌then◌else◌, Option, Some, None, List, [], ◌∷◌, length, slice_get}
use Rattle.hpr_terms.specs.declared.tag.Tag.{Tag}
use Rattle.hpr_syntax.specs.declared.rows.Content.{Content}
use Rattle.hpr_syntax.specs.Body.{Body, done}
use Rattle.hpr_syntax.specs.BodyOf.{before}
use Rattle.hpr_syntax.specs.Rows.{made}
use Rattle.hpr_syntax.specs.Issued.{Issued}
use Rattle.hpr_syntax.specs.Tree.{Tree}
use Rattle.hpr_graph.specs.declared.vertex.Vertex.{Vertex}
use Rattle.hpr_graph.specs.declared.vertex.Vertex.TheVariants.{Entry, Part}
use Rattle.hpr_graph.specs.declared.edge.Kind.{Kind}
use Rattle.hpr_graph.specs.declared.edge.Kind.TheVariants.{Control}
use Rattle.hpr_graph.specs.Graphs.{Graph}
use Rattle.hpr_graph.specs.Arrangements.{Directs, edge_into}
use Rattle.hpr_forest.specs.Trees.{Slot, same_slot}
use Rattle.hpr_order.specs.declared.item.Item.{Item}
use Rattle.hpr_order.specs.Regions.{AllowsIn}

abbrev pub slot_in : Option Item → Slot
slot_in None = None
slot_in (Some i) = i.slot

abbrev pub slot_at : List Item → ℕ → Slot
slot_at items k = slot_in (slice_get items k)

abbrev pub IsItem : List Item → ℕ → Tag → Content → Type 0
IsItem items k t c = (i : Item) × (slice_get items k ≡ Some i) × (i.tag ≡ t) × (i.content ≡ c)

abbrev pub IsSource : List Item → Slot → Vertex → Bool → Type 0
IsSource items None from label = (from ≡ Entry) × (label ≡ true)
IsSource items (Some (k, b)) from label = (label ≡ b) × ((t : Tag) × (c : Content) × (from ≡ Part t c) × IsItem items k t c)

abbrev pub AreSlots : List Item → Type 0
AreSlots items = (k j : ℕ) (b : Bool) → k < length items → slot_at items k ≡ Some (j, b) → j < length items

pub record AreItems (g : Graph) (items : List Item) : Type 0 where
  pub parts : (t : Tag) (c : Content) → g.vertex (Part t c) ↔ ((k : ℕ) × IsItem items k t c)
  pub once : (k j : ℕ) (t : Tag) (c d : Content) → IsItem items k t c → IsItem items j t d → k ≡ j
  pub control : (k : ℕ) (t : Tag) (c : Content) (from : Vertex) (label : Bool) → IsItem items k t c
      → g.edge (edge_into from (Part t c) (Control label)) ↔ IsSource items (slot_at items k) from label
  pub held : (k j : ℕ) (b : Bool) → k < length items → slot_at items k ≡ Some (j, b) → (t : Tag) × (c : Content) × IsItem items j t c × AllowsIn c b

abbrev pub Asks : Graph → List Item → ℕ → ℕ → Type 0
Asks g items s t =
    (k : Kind) × (ts tt : Tag) × (cs ct : Content) × IsItem items s ts cs × IsItem items t tt ct × g.edge (edge_into (Part ts cs) (Part tt ct) k) × Directs k

abbrev pub said : Tag → Content → Body → Body → Body → Body
said t c first second rest = before (made t c first second) rest

abbrev pub with_part : Option Item → ℕ → (Slot → Body) → Slot → Body
with_part None c blocks v = blocks v
with_part (Some i) c blocks v =
    if same_slot i.slot v then said i.tag i.content (blocks (Some (c, true))) (blocks (Some (c, false))) (blocks v) else blocks v

abbrev pub block_at : List Item → List ℕ → Slot → Body
block_at items [] v = done
block_at items (c ∷ order) v = with_part (slice_get items c) c (block_at items order) v

abbrev pub program_of : List Item → Issued → List (List ℕ) → List ℕ → Tree
program_of items issued finals order = record { issued = issued; body = block_at items order None; finals = finals }
