-- Steps of the loops that make the tables of clashes, and what the tables say in the end.
use Rattle.std.proofs.Common.{◌≡◌, ℕ, zero, suc, ◌+◌, ◌<◌, ◌≤◌, ◌↔◌, inl, inr, Bool, true, false, Option, Some, None, List, [], ◌∷◌, ◌++◌, Vec, length, vec_len, take, get_or, Contains, slice_get, refl, sym, ap, ◌∙◌, subst, arith, rules}
use Rattle.std.specs.Global.{Global}
use Rattle.std.specs.Cmp.Lexicographic.{slice_cmp}
use Rattle.std.specs.List.Sorted.{IsStrictlySortedBy}
use Rattle.std.specs.Ordering.{nat_cmp}
use Rattle.std.proofs.lemmas.Bool.{cases_eq, eqb-true, eq-eqb}
use Rattle.std.proofs.lemmas.List.{take_all}
use Rattle.std.proofs.lemmas.List.Elements.{Contains-append_left, Contains-append_right, Contains-append_cases}
use Rattle.std.proofs.lemmas.Option.{slice_get_within}
use Rattle.hpr_terms.specs.declared.tag.Tag.{Tag}
use Rattle.hpr_terms.proofs.Facts.{some_inj, contains_at, get_below, in_none, in_cons, in_here}
use Rattle.hpr_syntax.specs.declared.rows.Content.{Content}
use Rattle.hpr_syntax.specs.Rows.{assigned}
use Rattle.hpr_graph.specs.declared.vertex.Vertex.{Vertex}
use Rattle.hpr_graph.specs.declared.vertex.Vertex.TheVariants.{Entry, Part}
use Rattle.hpr_graph.specs.Clashes.{StandInOneBlock}
use Rattle.hpr_graph.specs.Graphs.{IsOnce}
use Rattle.hpr_graph.specs.Numbered.{Numbered, graph_in}
use Rattle.hpr_forest.specs.Blocks.{row_at}
use Rattle.hpr_forest.specs.Trees.{Slot, same_slot}
use Rattle.hpr_search.specs.Rows.{numbers_at, numbers_of}
use Rattle.hpr_order.specs.declared.item.Item.{Item}
use Rattle.hpr_order.specs.Items.{IsItem, IsSource, slot_at, slot_in}
use Rattle.hpr_order.specs.Numbers.{AreItemsOf}
use Rattle.hpr_order.proofs.Steps.{take_step}
use Rattle.hpr_graph.proofs.NamesOnce.{names_once}
use Rattle.hpr_region.specs.declared.flows.Flows.{Flows}
use Rattle.hpr_region.specs.Flows as flow
use Rattle.hpr_region.specs.Making.{AreSlotsOf, AreVariablesOf, AreUsesOf}
use Rattle.hpr_region.proofs.Latest.{get_small}
use Rattle.hpr_region.specs.Tables.{AreFlowsBy, AreReaders, AreUsed, IsItemOf, IsReadBy, IsVariable}

abbrev pub HasVariable : List (List ℕ) → List Item → ℕ → Option (Option ℕ) → Type 0
HasVariable names items k o = (v : Option ℕ) × (o ≡ Some v) × ((i : Item) → slice_get items k ≡ Some i → IsVariable names v (assigned i.content))

-- the number of a variable is that of a name
pub names_below : (names : List (List ℕ)) (items : List Item) (vs : Vec (Option ℕ) Global) → vec_len vs ≡ length items → AreVariablesOf names items vs.items → (k v : ℕ) → get_or vs.items k None ≡ Some v → v < length names
names_below names items vs count are k v e =
    let lt = get_small vs.items k v e in
    let l : length vs.items ≡ vec_len vs = search rules in
    let (i, at) = get_below items k (let m : k < length items = omega (arith, lt, l, count) in m) in
    let (x, _, there) = subst (λ o. IsVariable names o (assigned i.content)) e (are k i at) in
    slice_get_within names v x there

-- ---- the numbers of names

abbrev pub AreAmong : List (List ℕ) → List (List ℕ) → List ℕ → Type 0
AreAmong names used row = (r : ℕ) → Contains row r ↔ ((x : List ℕ) × (slice_get names r ≡ Some x) × Contains used x)

module _ (names used : List (List ℕ)) (index : ℕ) (name : List ℕ) (here : slice_get used index ≡ Some name) where
  pub among_skip : (row : List ℕ) → ¬ Contains names name → AreAmong names (take index used) row → AreAmong names (take (index + 1) used) row
  among_skip row out all r = (
    (λ h. let (x, at, old) = (all r).0 h in (x, at, (take_step used index name x here).1 (inl old))),
    (λ (x, at, h). elim ((take_step used index name x here).0 h) [
      | inl old ↦ (all r).1 (x, at, old)
      | inr same ↦ absurd (out (subst (Contains names) (sym same) (contains_at names r x at)))
    ]),
  )

  pub among_push : (row more : List ℕ) (n : ℕ) → IsOnce names → slice_get names n ≡ Some name → more ≡ row ++ n ∷ [] → AreAmong names (take index used) row → AreAmong names (take (index + 1) used) more
  among_push row more n once at_n grown all r = (
    (λ h. elim (Contains-append_cases row (n ∷ []) r (subst (λ z. Contains z r) grown h)) [
      | inl old ↦ (let (x, at, was) = (all r).0 old in (x, at, (take_step used index name x here).1 (inl was)))
      | inr new ↦ elim (in_cons n r [] new) [
        | inl same ↦ (name, subst (λ z. slice_get names z ≡ Some name) same at_n, (take_step used index name name here).1 (inr refl))
        | inr none ↦ absurd (in_none r none)
      ]
    ]),
    (λ (x, at, h). subst (λ z. Contains z r) (sym grown) (elim ((take_step used index name x here).0 h) [
      | inl old ↦ Contains-append_left row (n ∷ []) r ((all r).1 (x, at, old))
      | inr same ↦ Contains-append_right row (n ∷ []) r (subst (Contains (n ∷ [])) (once n r x (at_n ∙ ap Some same) at) (in_here n []))
    ])),
  )

pub among_whole : (names used : List (List ℕ)) (index : ℕ) (row : List ℕ) → length used ≤ index → AreAmong names (take index used) row → AreAmong names used row
among_whole names used index row end all = subst (λ z. AreAmong names z row) (take_all index used end) all

-- ---- the names that items define

abbrev pub AreDefinedBelow : List Item → ℕ → List (List ℕ) → Type 0
AreDefinedBelow items index names = (k : ℕ) (i : Item) (x : List ℕ) → k < index → slice_get items k ≡ Some i → assigned i.content ≡ Some x → Contains names x

pub defined_more : (items : List Item) (index : ℕ) (i : Item) (names more : List (List ℕ)) (x : List ℕ) → slice_get items index ≡ Some i → assigned i.content ≡ Some x → more ≡ names ++ x ∷ []
    → AreDefinedBelow items index names → AreDefinedBelow items (index + 1) more
defined_more items index i names more x here defines grown all k j y lt at is = subst (λ z. Contains z y) (sym grown) (elim (cases_eq k index) [
  | inl same ↦ (
      let one : j ≡ i = some_inj j i (sym at ∙ subst (λ z. slice_get items z ≡ Some i) (sym same) here) in
      let name : y ≡ x = some_inj y x (sym is ∙ ap (λ (z : Item). assigned z.content) one ∙ defines) in
      Contains-append_right names (x ∷ []) y (subst (Contains (x ∷ [])) (sym name) (in_here x [])))
  | inr other ↦ Contains-append_left names (x ∷ []) y (all k j y (omega (arith, lt)) at is)
])

-- ---- the tables in the end

pub same_slots : (u v : Slot) → same_slot u v ≡ true → u ≡ v
same_slots None None e = refl
same_slots None (Some b) e = absurd cc
same_slots (Some a) None e = absurd cc
same_slots (Some (a, true)) (Some (b, true)) e = ap (λ z. Some (z, true)) (eqb-true a b e)
same_slots (Some (a, false)) (Some (b, false)) e = ap (λ z. Some (z, false)) (eqb-true a b e)
same_slots (Some (a, true)) (Some (b, false)) e = absurd cc
same_slots (Some (a, false)) (Some (b, true)) e = absurd cc

pub slot_itself : (v : Slot) → same_slot v v ≡ true
slot_itself None = refl
slot_itself (Some (a, true)) = eq-eqb a a refl
slot_itself (Some (a, false)) = eq-eqb a a refl

pub row_same : (xs : List (Vec ℕ Global)) (k : ℕ) → row_at (slice_get xs k) ≡ numbers_at (numbers_of xs) k
row_same [] k = refl
row_same (x ∷ xs) zero = refl
row_same (x ∷ xs) (suc k) = row_same xs k

module _ (g : Numbered) (numbers : List ℕ) (items : List Item) (is : AreItemsOf g numbers items) where
  item_there : (k : ℕ) (t : Tag) (c : Content) → IsItemOf g numbers k t c → IsItem items k t c
  item_there k t c (n, en, there) = (is.at.parts k n t c en).1 there

  -- a source gives one slot
  source_slot : (k j : ℕ) (u v : Slot) (from : Vertex) (label : Bool) → slot_at items k ≡ u → slot_at items j ≡ v → IsSource items u from label → IsSource items v from label → u ≡ v
  source_slot k j None None from label eu ev su sv = refl
  source_slot k j None (Some (b, lab)) from label eu ev su sv = absurd (let (l, (t, c, e, i)) = sv in let no : Entry ≡ Part t c = sym su.0 ∙ e in cc)
  source_slot k j (Some (a, lab)) None from label eu ev su sv = absurd (let (l, (t, c, e, i)) = su in let no : Entry ≡ Part t c = sym sv.0 ∙ e in cc)
  source_slot k j (Some (a, la)) (Some (b, lb)) from label eu ev (l, (t, c, e, i)) (l', (t', c', e', i')) =
      let part : Part t c ≡ Part t' c' = sym e ∙ e' in
      let tag : t ≡ t' = cc in
      let same : a ≡ b = is.items.once a b t c c' i (subst (λ z. IsItem items b z c') (sym tag) i') in
      ap (λ z. Some (z, la)) same ∙ ap (λ z. Some (b, z)) (sym l ∙ l')

  -- where an item stands, some control edge comes from
  some_source : (v : Slot) → ((j : ℕ) (b : Bool) → v ≡ Some (j, b) → (t : Tag) × (c : Content) × IsItem items j t c) → (from : Vertex) × (label : Bool) × IsSource items v from label
  some_source None held = (Entry, true, (refl, refl))
  some_source (Some (j, b)) held = let (t, c, i) = held j b refl in (Part t c, b, (refl, (t, c, refl, i)))

  one_block : (a b : ℕ) (s t : Tag) (c d : Content) → IsItem items a s c → IsItem items b t d → (slot_at items a ≡ slot_at items b) ↔ StandInOneBlock (graph_in g) (Part s c) (Part t d)
  one_block a b s t c d ia ib = (
    (λ same.
        let (from, label, source) = some_source (slot_at items a) (λ j bb e. (let (u, cu, i, _) = is.items.held a j bb (within a s c ia) e in (u, cu, i))) in
        (from, label, (is.items.control a s c from label ia).1 source, (is.items.control b t d from label ib).1 (subst (λ z. IsSource items z from label) same source))),
    (λ (from, label, ea, eb). source_slot a b (slot_at items a) (slot_at items b) from label refl refl ((is.items.control a s c from label ia).0 ea) ((is.items.control b t d from label ib).0 eb)),
  )
    where
      within : (k : ℕ) (t : Tag) (c : Content) → IsItem items k t c → k < length items
      within k t c (i, e, _, _) = slice_get_within items k i e

  module _ (names : List (List ℕ)) (sorted : IsStrictlySortedBy (slice_cmp nat_cmp) names) (f : Flows) (slots : AreSlotsOf items f.slots.items) (variables : AreVariablesOf names items f.variables.items)
      (uses : AreUsesOf names items f.uses.items) (rows : List (Vec ℕ Global)) (readers : f.readers.items ≡ rows) (are : AreReaders g numbers (numbers_of rows)) (count : vec_len f.slots ≡ length items) where
    slot_is : (k : ℕ) (t : Tag) (c : Content) → IsItem items k t c → flow.slot_of f k ≡ slot_at items k
    slot_is k t c (i, e, _, _) = slots k i e ∙ sym (ap slot_in e)

    pub flows_are : AreFlowsBy g numbers names f
    flows_are = record {
      count = count ∙ is.at.count;
      once = names_once names sorted;
      blocks = λ a b s t c d ia ib.
          (let ja = item_there a s c ia in
          let jb = item_there b t d ib in
          let block = one_block a b s t c d ja jb in (
            (λ e. block.0 (sym (slot_is a s c ja) ∙ same_slots (flow.slot_of f a) (flow.slot_of f b) e ∙ slot_is b t d jb)),
            (λ h. (let same : flow.slot_of f a ≡ flow.slot_of f b = slot_is a s c ja ∙ block.1 h ∙ sym (slot_is b t d jb) in
                subst (λ z. same_slot (flow.slot_of f a) z ≡ true) same (slot_itself (flow.slot_of f a)))),
          ));
      variables = λ k t c ik. (let (i, e, it, ic) = item_there k t c ik in subst (λ z. IsVariable names (flow.variable_of f k) (assigned z)) ic (variables k i e));
      uses = λ k t c ik. (let (i, e, it, ic) = item_there k t c ik in subst (λ z. AreUsed names (flow.uses_of f k) z) ic (uses k i e));
      readers = λ a b s t c d ia ib. subst (λ (z : List ℕ). Contains z b ↔ IsReadBy (graph_in g) (Part s c) (Part t d)) (sym (ap (λ (r : List (Vec ℕ Global)). row_at (slice_get r a)) readers ∙ row_same rows a)) (are a b s t c d ia ib);
    }
