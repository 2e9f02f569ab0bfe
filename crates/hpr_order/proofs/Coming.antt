-- What is still to come, and what the search begins with.
use Rattle.std.proofs.Common.{◌≡◌, ℕ, suc, ◌+◌, ◌<◌, get_or, Option, Some, None, IfSome, IfNone, List, [], ◌∷◌, All, length, Vec, slice_get, refl, sym, ap, ◌∙◌, subst, arith}
use Rattle.std.specs.Global.{Global}
use Rattle.std.proofs.lemmas.Option.{get_or_from_slice_get}
use Rattle.hpr_terms.proofs.Facts.{some_inj, place_of, get_below}
use Rattle.hpr_syntax.specs.Issued.{Issued, IsIssued}
use Rattle.hpr_syntax.specs.Proper.{IsProperPair}
use Rattle.hpr_graph.specs.declared.vertex.Vertex.{Vertex}
use Rattle.hpr_graph.specs.declared.vertex.Vertex.TheVariants.{Part}
use Rattle.hpr_graph.specs.declared.edge.Kind.{Kind}
use Rattle.hpr_graph.specs.Arrangements.{AreArrangements, edge_into}
use Rattle.hpr_graph.specs.Numbered.{Numbered, graph_in}
use Rattle.hpr_graph.specs.Rank.{StandsBefore}
use Rattle.hpr_graph.proofs.Laws.{closed_by_numbers}
use Rattle.hpr_forest.specs.Forest.{IsDistinct}
use Rattle.hpr_order.specs.declared.item.Item.{Item}
use Rattle.hpr_order.specs.declared.ordered.OrderedItems.{OrderedItems}
use Rattle.hpr_order.specs.Arranging.{AreFirstNumbers, AreIssued, IsSearching, coming, orders_in, programs_of}
use Rattle.hpr_order.specs.Numbers.{AreFinals, AreItemsAt, AreRanked, IsPartAt}
use Rattle.hpr_order.specs.Ordered.{IsOrdered}
use Rattle.hpr_order.specs.Regions.{AllPossible}
use Rattle.hpr_order.proofs.Arranges.{orders_arranged, orders_programs}
use Rattle.hpr_order.proofs.OuterControls.{outer_controls}
use Rattle.hpr_order.proofs.ListFacts.{get_within}
use Rattle.hpr_order.proofs.Shapes.{tag_of, vertex_of, vertex_is}
use Rattle.hpr_order.proofs.Sound.{IsGiven, item_at}

pub coming_same : (next : Option (Vec ℕ Global)) (a b : Option (List (List ℕ))) → orders_in a ≡ orders_in b → coming next a ≡ coming next b
coming_same None a b e = refl
coming_same (Some order) a b e = ap (λ z. order.items ∷ z) e

pub coming_next : (next : Option (Vec ℕ Global)) (a b : Option (List (List ℕ))) → IfSome next (λ order. orders_in a ≡ order.items ∷ orders_in b) → IfNone next ((orders_in a ≡ []) × (orders_in b ≡ []))
    → coming next b ≡ orders_in a
coming_next None a b some none = sym none.0
coming_next (Some order) a b some none = sym some

closed_graph : (g : Numbered) (from to : Vertex) (k : Kind) → (graph_in g).edge (edge_into from to k) → (graph_in g).vertex from × (graph_in g).vertex to
closed_graph g from to k e = let h = closed_by_numbers g (edge_into from to k) e in (h.1, h.0)

ranked_items : (g : Numbered) (rank : List Vertex) (numbers : List ℕ) (items : List Item) → AreRanked g rank numbers → AreItemsAt g numbers items
    → (k j : ℕ) → k < j → j < length items → StandsBefore rank (vertex_of items k) (vertex_of items j)
ranked_items g rank numbers items ranked at k j lt within =
    let count = at.count in
    let (n, en) = get_below numbers k (let l : k < length numbers = omega arith in l) in
    let (m, em) = get_below numbers j (let l : j < length numbers = omega arith in l) in
    let (c, i) = item_at items k (let l : k < length items = omega arith in l) in
    let (d, i') = item_at items j within in
    let pn : IsPartAt g n (tag_of items k) c = (at.parts k n (tag_of items k) c en).0 i in
    let pm : IsPartAt g m (tag_of items j) d = (at.parts j m (tag_of items j) d em).0 i' in
    subst (λ v. StandsBefore rank v (vertex_of items j)) (sym (vertex_is items k (tag_of items k) c i))
    (subst (λ v. StandsBefore rank (Part (tag_of items k) c) v) (sym (vertex_is items j (tag_of items j) d i')) (ranked k j n m (Part (tag_of items k) c) (Part (tag_of items j) d) lt en em pn pm))

-- what the search begins with, where the parts are in order
module _ (g : Numbered) (possible : AllPossible (graph_in g)) (rank : List Vertex) (numbers : List ℕ) (ranked : AreRanked g rank numbers) (o : OrderedItems) (is : IsOrdered g numbers o)
    (ns : Issued) (issued : AreIssued (graph_in g) ns) (up : IsIssued ns) (pairs : All IsProperPair ns) (xs : List (List ℕ)) (finals : AreFinals (graph_in g) xs) where
  pub given : IsGiven (graph_in g) o.items.items ns xs
  given = record {
    closed = closed_graph g;
    items = is.items.items;
    issued = issued;
    proper = is.items.proper;
    ascending = up;
    numbers = pairs;
    names = finals.proper;
    finals = finals.names;
    order = finals.ascending;
    outer = outer_controls (graph_in g) possible;
  }

  module _ (copy : Issued) (same : copy ≡ ns) (orders : List (List ℕ)) (are : orders ≡ orders_in o.orders) where
    pub starts_with : AreArrangements (graph_in g) rank ns (programs_of o.items.items copy xs orders)
    starts_with =
        subst (λ z. AreArrangements (graph_in g) rank ns (programs_of o.items.items z xs orders)) (sym same)
        (subst (λ z. AreArrangements (graph_in g) rank ns (programs_of o.items.items ns xs z)) (sym are)
        (orders_arranged (graph_in g) o.items.items ns xs given rank (ranked_items g rank numbers o.items.items ranked is.items.at) (orders_in o.orders) is.orders))

    pub searches : IsSearching o.items.items copy xs orders
    searches =
        subst (λ z. IsSearching o.items.items z xs orders) (sym same)
        (subst (IsSearching o.items.items ns xs) (sym are)
        (record { slots = is.items.slots; programs = orders_programs (graph_in g) o.items.items ns xs given (orders_in o.orders) is.orders }))

-- the first numbers stand once each
pub first_once : (low : ℕ) (ns : List ℕ) → ((k x : ℕ) → slice_get ns k ≡ Some x → x ≡ low + k) → IsDistinct ns
first_once low [] all = tt
first_once low (x ∷ ns) all = (
  λ h.
      (let (k, e) = place_of ns x h in
      let a : x ≡ low + 0 = all 0 x refl in
      let b : x ≡ low + (k + 1) = later k x e in
      omega arith),
  first_once (low + 1) ns (λ k y e. (let b : y ≡ low + (k + 1) = later k y e in omega arith)),
)
  where
    later : (k y : ℕ) → slice_get ns k ≡ Some y → y ≡ low + (k + 1)
    later k y e = let b : y ≡ low + suc k = all (suc k) y e in omega arith

pub numbers_once : (n : ℕ) (ns : List ℕ) → AreFirstNumbers n ns → IsDistinct ns
numbers_once n ns (len, all) = first_once 0 ns (λ k x e. (let lt = get_within ns k x e in let same : k ≡ x = some_inj k x (sym (all k (omega arith)) ∙ e) in omega arith))

pub numbers_within : (n : ℕ) (ns : List ℕ) → AreFirstNumbers n ns → All (λ c. c < n) ns
numbers_within n ns (len, all) = λ k d lt. (let less : k < n = omega arith in let e : get_or ns k d ≡ k = get_or_from_slice_get ns k k d (all k less) in omega arith)
