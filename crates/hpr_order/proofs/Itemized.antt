-- The parts of a graph, by their numbers, are its items.
use Rattle.std.proofs.Common.{◌≡◌, ℕ, ◌<◌, ◌↔◌, inl, inr, Bool, true, Option, Some, None, List, All, length, Contains, slice_get, refl, sym, ap, ◌∙◌, subst, arith}
use Rattle.std.proofs.lemmas.Bool.{cases_eq}
use Rattle.std.proofs.lemmas.Option.{slice_get_within, get_or_from_slice_get}
use Rattle.hpr_terms.specs.declared.tag.Tag.{Tag}
use Rattle.hpr_terms.proofs.Facts.{contains_at, place_of, get_below}
use Rattle.hpr_syntax.specs.declared.rows.Content.{Content}
use Rattle.hpr_graph.specs.declared.vertex.Vertex.{Vertex}
use Rattle.hpr_graph.specs.declared.vertex.Vertex.TheVariants.{Entry, Init, Part, Final}
use Rattle.hpr_graph.specs.declared.edge.Kind.TheVariants as kind
use Rattle.hpr_graph.specs.Arrangements.{edge_into}
use Rattle.hpr_graph.specs.Numbered.{Numbered, HasEdge, IsNumbered, graph_in}
use Rattle.hpr_graph.specs.Moves.{number_at}
use Rattle.hpr_forest.specs.Trees.{Slot}
use Rattle.hpr_order.specs.declared.item.Item.{Item}
use Rattle.hpr_order.specs.Arranging.{IsProperItem}
use Rattle.hpr_order.specs.Items.{AreItems, AreSlots, IsItem, IsSource, slot_at, slot_in}
use Rattle.hpr_order.specs.Numbers.{ArePartsOf, ArePlaces, AreItemsAt, AreItemsOf, IsItemAt, IsPartAt, slot_by, slot_from}
use Rattle.hpr_order.specs.Regions.{Allows, AllowsIn, AreRegionsOf, Controls, control_link}
use Rattle.hpr_order.proofs.ListFacts.{one_get}
use Rattle.hpr_order.proofs.Sound.{part_same}

abbrev item_in : Slot → ℕ
item_in None = 0
item_in (Some p) = p.0

abbrev label_in : Slot → Bool
label_in None = true
label_in (Some p) = p.1

slot_item : (m j : ℕ) (a b : Bool) → slot_from (Some m) a ≡ Some (j, b) → m ≡ j
slot_item m j a b e = ap item_in e

slot_label : (m j : ℕ) (a b : Bool) → slot_from (Some m) a ≡ Some (j, b) → a ≡ b
slot_label m j a b e = ap label_in e

module _ (g : Numbered) (num : IsNumbered g) (rs : List (Option (ℕ × Bool))) (regions : AreRegionsOf g rs) (numbers : List ℕ) (parts : ArePartsOf g numbers)
    (places : List (Option ℕ)) (placed : ArePlaces numbers places) (items : List Item) (count : length items ≡ length numbers)
    (all : (k n : ℕ) → slice_get numbers k ≡ Some n → (i : Item) × (slice_get items k ≡ Some i) × (IsItemAt g rs places n i × IsProperItem i)) where
  at : (k n : ℕ) → slice_get numbers k ≡ Some n → (i : Item) × (slice_get items k ≡ Some i) × IsItemAt g rs places n i
  at k n e = let (i, ei, (is, _)) = all k n e in (i, ei, is)

  vertex_one : (n : ℕ) (v w : Vertex) → slice_get g.vertices n ≡ Some v → slice_get g.vertices n ≡ Some w → v ≡ w
  vertex_one n v w a b = one_get g.vertices n v w a b

  item_by : (k n : ℕ) (t : Tag) (c : Content) → slice_get numbers k ≡ Some n → IsPartAt g n t c → IsItem items k t c
  item_by k n t c e p =
      let (i, ei, (part, _)) = at k n e in
      let (a, b) = part_same i.tag t i.content c (vertex_one n (Part i.tag i.content) (Part t c) part p) in
      (i, ei, a, b)

  -- an item's number, its vertex and its slot
  number_by : (k : ℕ) (t : Tag) (c : Content) → IsItem items k t c
      → (n : ℕ) × (r : Option (ℕ × Bool)) × (slice_get numbers k ≡ Some n) × IsPartAt g n t c × (slice_get rs n ≡ Some r) × (slot_at items k ≡ slot_by places r)
  number_by k t c (i, ei, it, ic) =
      let (n, en) = get_below numbers k (let lt = slice_get_within items k i ei in omega arith) in
      let (j, ej, (part, (r, er, es))) = at k n en in
      let same : j ≡ i = one_get items k j i ej ei in
      let part' : IsPartAt g n i.tag i.content = subst (λ (z : Item). IsPartAt g n z.tag z.content) same part in
      (n, r, en, subst (λ z. IsPartAt g n z c) it (subst (λ z. IsPartAt g n i.tag z) ic part'), er, ap slot_in ej ∙ es)

  items_at : AreItemsAt g numbers items
  items_at = record {
    count = count;
    parts = λ k n t c e. (
      (λ i. let (m, r, em, part, _, _) = number_by k t c i in subst (λ z. IsPartAt g z t c) (one_get numbers k m n em e) part),
      (λ p. item_by k n t c e p),
    );
  }

  part_there : (t : Tag) (c : Content) → Contains g.vertices (Part t c) → (k : ℕ) × IsItem items k t c
  part_there t c h =
      let (n, e) = place_of g.vertices (Part t c) h in
      let (k, ek) = parts.all n t c e in
      (k, item_by k n t c ek e)

  there_part : (k : ℕ) (t : Tag) (c : Content) → IsItem items k t c → Contains g.vertices (Part t c)
  there_part k t c i = let (n, r, en, part, _, _) = number_by k t c i in contains_at g.vertices n (Part t c) part

  item_once : (k j : ℕ) (t : Tag) (c d : Content) → IsItem items k t c → IsItem items j t d → k ≡ j
  item_once k j t c d i i' = elim (cases_eq k j) [
    | inl same ↦ same
    | inr differ ↦ absurd (
        let (n, r, en, part, _, _) = number_by k t c i in
        let (m, r', em, part', _, _) = number_by j t d i' in
        regions.once t (
          c,
          d,
          (λ same.
              let at_n : slice_get g.vertices n ≡ Some (Part t d) = part ∙ ap (λ z. Some (Part t z)) same in
              let one : n ≡ m = num.once n m (Part t d) at_n part' in
              differ (parts.once k j m (en ∙ ap Some one) em)),
          there_part k t c i,
          there_part j t d i',
        ))
  ]

  no_entry : (t : Tag) (c : Content) → Part t c ≡ Entry → ⊥
  no_entry t c e = absurd cc

  -- where the control edge into a part comes from
  edge_of : (n : ℕ) (t : Tag) (c : Content) (r : Option (ℕ × Bool)) → IsPartAt g n t c → slice_get rs n ≡ Some r
      → (p : ℕ) × (label : Bool) × (v : Vertex) × (r ≡ Some (p, label)) × (slice_get g.vertices p ≡ Some v) × Controls (graph_in g) v label (Part t c)
  edge_of n t c None part e = absurd (no_entry t c (regions.parents n (Part t c) None part e))
  edge_of n t c (Some (p, label)) part e =
      let (_, link) = regions.parents n (Part t c) (Some (p, label)) part e in
      let (x, (to, from, k)) = num.links n (control_link p label) link in
      (p, label, x.from, refl, from, (n, control_link p label, link, (part, from, refl)))

  top_of : (v : Vertex) (label : Bool) (t : Tag) (c : Content) → Allows v label (Part t c) → ((u : Tag) (d : Content) → v ≡ Part u d → ⊥) → (v ≡ Entry) × (label ≡ true)
  top_of Entry label t c a out = (refl, a.0)
  top_of (Init x) label t c a out = absurd a
  top_of (Part u d) label t c a out = absurd (out u d refl)
  top_of (Final x) label t c a out = absurd a

  from_place : (p : ℕ) (v : Vertex) (lab : Bool) (k : ℕ) (t : Tag) (c : Content) (from : Vertex) (label : Bool) → slice_get g.vertices p ≡ Some v → Controls (graph_in g) v lab (Part t c)
      → (HasEdge g (edge_into from (Part t c) (kind.Control label)) → (from ≡ v) × (label ≡ lab)) → Allows v lab (Part t c) → (o : Option ℕ) → number_at places p ≡ o → slot_at items k ≡ slot_from o lab
      → HasEdge g (edge_into from (Part t c) (kind.Control label)) ↔ IsSource items (slot_at items k) from label
  from_place p v lab k t c from label at_p edge only allowed None is its =
      let (top, yes') = top_of v lab t c allowed (λ u d e. let (j, ej) = parts.all p u d (at_p ∙ ap Some e) in let some : number_at places p ≡ Some j = (placed p j).1 ej in absurd cc) in (
        (λ h. subst (λ z. IsSource items z from label) (sym its) ((only h).0 ∙ top, (only h).1 ∙ yes')),
        (λ s. let (a, b) = subst (λ z. IsSource items z from label) its s in
            subst (λ z. HasEdge g (edge_into z (Part t c) (kind.Control label))) (top ∙ sym a) (subst (λ z. HasEdge g (edge_into v (Part t c) (kind.Control z))) (yes' ∙ sym b) edge)),
      )
  from_place p v lab k t c from label at_p edge only allowed (Some j) is its =
      let ej : slice_get numbers j ≡ Some p = (placed p j).0 is in
      let (u, d, part) = parts.parts j p ej in
      let same : v ≡ Part u d = vertex_one p v (Part u d) at_p part in
      let item : IsItem items j u d = item_by j p u d ej part in (
        (λ h. subst (λ z. IsSource items z from label) (sym its) ((only h).1, (u, d, (only h).0 ∙ same, item))),
        (λ s. let (a, (u', d', b, item')) = subst (λ z. IsSource items z from label) its s in
            let (m, r, em, part', _, _) = number_by j u' d' item' in
            let here : IsPartAt g p u' d' = subst (λ z. IsPartAt g z u' d') (one_get numbers j m p em ej) part' in
            let is_v : v ≡ from = vertex_one p v (Part u' d') at_p here ∙ sym b in
            subst (λ z. HasEdge g (edge_into z (Part t c) (kind.Control label))) is_v (subst (λ z. HasEdge g (edge_into v (Part t c) (kind.Control z))) (sym a) edge)),
      )

  held_by : (p : ℕ) (v : Vertex) (lab : Bool) (k : ℕ) (t : Tag) (c : Content) (j : ℕ) (b : Bool) → slice_get g.vertices p ≡ Some v → Allows v lab (Part t c) → (o : Option ℕ) → number_at places p ≡ o
      → slot_from o lab ≡ Some (j, b) → (u : Tag) × (d : Content) × IsItem items j u d × AllowsIn d b
  held_by p v lab k t c j b at_p allowed None is e = absurd cc
  held_by p v lab k t c j b at_p allowed (Some m) is e =
      let same_m : m ≡ j = slot_item m j lab b e in
      let same_b : lab ≡ b = slot_label m j lab b e in
      let em : slice_get numbers m ≡ Some p = (placed p m).0 is in
      let (u, d, part) = parts.parts m p em in
      let same : v ≡ Part u d = vertex_one p v (Part u d) at_p part in
      let a : Allows (Part u d) lab (Part t c) = subst (λ z. Allows z lab (Part t c)) same allowed in
      (u, d, subst (λ z. IsItem items z u d) same_m (item_by m p u d em part), subst (AllowsIn d) same_b a.0)

  held : (k j : ℕ) (b : Bool) → k < length items → slot_at items k ≡ Some (j, b) → (t : Tag) × (c : Content) × IsItem items j t c × AllowsIn c b
  held k j b lt e =
      let (i, ei) = get_below items k lt in
      let (n, r, en, part, er, slot) = number_by k i.tag i.content (i, ei, refl, refl) in
      let (p, lab, v, is_r, at_p, edge) = edge_of n i.tag i.content r part er in
      let possible = regions.possible (Part i.tag i.content) (there_part k i.tag i.content (i, ei, refl, refl)) (no_entry i.tag i.content) in
      held_by p v lab k i.tag i.content j b at_p (possible.allowed v lab edge) (number_at places p) refl (sym (slot ∙ ap (slot_by places) is_r) ∙ e)

  controlled : (k : ℕ) (t : Tag) (c : Content) (from : Vertex) (label : Bool) → IsItem items k t c
      → HasEdge g (edge_into from (Part t c) (kind.Control label)) ↔ IsSource items (slot_at items k) from label
  controlled k t c from label i =
      let (n, r, en, part, er, slot) = number_by k t c i in
      let (p, lab, v, is_r, at_p, edge) = edge_of n t c r part er in
      let possible = regions.possible (Part t c) (there_part k t c i) (no_entry t c) in
      let (vf, vl, _, one) = possible.one in
      let only : HasEdge g (edge_into from (Part t c) (kind.Control label)) → (from ≡ v) × (label ≡ lab) =
      λ h. let (a, b) = one from label h in let (a', b') = one v lab edge in (a ∙ sym a', b ∙ sym b') in
      let its : slot_at items k ≡ slot_from (number_at places p) lab = slot ∙ ap (slot_by places) is_r in
      from_place p v lab k t c from label at_p edge only (possible.allowed v lab edge) (number_at places p) refl its

  are_slots : AreSlots items
  are_slots k j b lt e =
      let (t, c, i, _) = held k j b lt e in
      let (x, ex, _, _) = i in
      slice_get_within items j x ex

  are_proper : All IsProperItem items
  are_proper k d lt =
      let (n, e) = get_below numbers k (let l : k < length numbers = omega arith in l) in
      let (i, ei, (_, proper)) = all k n e in
      subst IsProperItem (sym (get_or_from_slice_get items k i d ei)) proper

  are_items : AreItems (graph_in g) items
  are_items = record {
    parts = λ t c. ((λ h. part_there t c h), (λ h. there_part h.0 t c h.1));
    once = item_once;
    control = controlled;
    held = held;
  }

  pub are_items_of : AreItemsOf g numbers items
  are_items_of = record { items = are_items; at = items_at; slots = are_slots; proper = are_proper }
