-- Steps of the loops that make the tables, and what the tables are at the end.
use Rattle.std.proofs.Common.{◌≡◌, ℕ, ◌+◌, ◌<◌, ◌≤◌, ◌⊎◌, ◌↔◌, inl, inr, true, Option, Some, None, List, [], ◌∷◌, ◌++◌, length, get_or, take, Contains, slice_get, Vec, IfNone, IfSome, refl, sym, ap, ◌∙◌, subst, arith, rules}
use Rattle.std.specs.Global.{Global}
use Rattle.std.proofs.lemmas.Bool.{cases_eq, cases_lt}
use Rattle.std.proofs.lemmas.Option.{slice_get_within, slice_get_past, slice_get-get_or}
use Rattle.hpr_terms.proofs.Facts.{some_inj, get_below, at_end}
use Rattle.hpr_search.specs.Rows.{numbers_at, IsPushed}
use Rattle.hpr_forest.proofs.Unique.{in_none}
use Rattle.hpr_forest.specs.declared.blocks.Blocks.{Blocks}
use Rattle.hpr_forest.specs.Blocks.{forest_in, parent_at, row_at}
use Rattle.hpr_forest.specs.Forest.{IsForest}
use Rattle.hpr_forest.specs.Trees.{Slot, above}
use Rattle.hpr_forest.proofs.Members.{in_is_in}
use Rattle.hpr_order.specs.declared.item.Item.{Item}
use Rattle.hpr_order.specs.Items.{AreSlots, slot_at, slot_in}
use Rattle.hpr_order.specs.Lifting.{IsBelow, IsPairOver, parent_in}
use Rattle.hpr_order.specs.Tables.{AreChildRows, AreLifted, AreListed, AreSiblingRows, AreTablesOf, AreWithFirst, IsAskedAt, MustPrecede}
use Rattle.hpr_order.proofs.ListFacts.{push_old}
use Rattle.hpr_order.proofs.Steps.{take_step}
use Rattle.hpr_order.proofs.Tabled.{slot_below}

-- one entry more in a column
pub column_more : {X : Type 0} (Q : ℕ → Option X → Type 0) (xs more : List X) (index : ℕ) (x : X) → length xs ≡ index → more ≡ xs ++ x ∷ [] → Q index (Some x)
    → ((k : ℕ) → k < index → Q k (slice_get xs k)) → (k : ℕ) → k < index + 1 → Q k (slice_get more k)
column_more Q xs more index x len is here all k lt = elim (cases_eq k index) [
  | inl same ↦ (
      let now : slice_get more index ≡ Some x = subst (λ z. slice_get z index ≡ Some x) (sym is) (subst (λ z. slice_get (xs ++ x ∷ []) z ≡ Some x) len (at_end xs x)) in
      subst (λ z. Q z (slice_get more z)) (sym same) (subst (Q index) (sym now) here))
  | inr other ↦ (
      let less : k < index = omega (arith, lt) in
      let (y, e) = get_below xs k (let l : k < length xs = omega arith in l) in
      let now : slice_get more k ≡ Some y = subst (λ z. slice_get z k ≡ Some y) (sym is) (push_old xs x k y e) in
      subst (Q k) (e ∙ sym now) (all k less))
]

-- what one pair more says
pub record IsLiftedTo (items : List Item) (pairs : List (ℕ × ℕ)) (index : ℕ) (asked : List (List ℕ)) : Type 0 where
  pub count : length asked ≡ length items
  pub sound : (x d : ℕ) → IsAskedAt asked x d → (s t : ℕ) × Contains pairs (s, t) × IsPairOver items d x s t
  pub complete : (s t : ℕ) → Contains (take index pairs) (s, t)
      → ((s ≡ t) ⊎ IsBelow items s t) ⊎ ((x d : ℕ) × IsAskedAt asked x d × IsPairOver items d x s t)

module _ (items : List Item) (pairs : List (ℕ × ℕ)) (index : ℕ) (pair : ℕ × ℕ) (here : slice_get pairs index ≡ Some pair) where
  pair_in : Contains pairs (pair.0, pair.1)
  pair_in = (index, slice_get_within pairs index pair here, get_or_here)
    where
      get_or_here : get_or pairs index (pair.0, pair.1) ≡ (pair.0, pair.1)
      get_or_here = some_inj (get_or pairs index (pair.0, pair.1)) (pair.0, pair.1) (sym (slice_get-get_or pairs index (pair.0, pair.1) (slice_get_within pairs index pair here)) ∙ here)

  pub lifted_always : (asked : List (List ℕ)) → IsLiftedTo items pairs index asked → (pair.0 ≡ pair.1) ⊎ IsBelow items pair.0 pair.1 → IsLiftedTo items pairs (index + 1) asked
  lifted_always asked r always = record {
    count = r.count;
    sound = r.sound;
    complete = λ s t h. elim ((take_step pairs index pair (s, t) here).0 h) [
      | inl old ↦ r.complete s t old
      | inr same ↦ inl (subst (λ (p : ℕ × ℕ). (p.0 ≡ p.1) ⊎ IsBelow items p.0 p.1) same always)
    ];
  }

  pub lifted_pushed : (asked more : List (List ℕ)) (first second : ℕ) → IsLiftedTo items pairs index asked → IsPairOver items first second pair.0 pair.1
      → length more ≡ length asked → IsPushed asked second first more → IsLiftedTo items pairs (index + 1) more
  lifted_pushed asked more first second r over len pushed = record {
    count = len ∙ r.count;
    sound = λ x d m. elim ((pushed x d).0 m) [
      | inl old ↦ r.sound x d old
      | inr (is_x, is_d) ↦ (
        pair.0,
        pair.1,
        pair_in,
        subst (λ z. IsPairOver items z x pair.0 pair.1) (sym is_d) (subst (λ z. IsPairOver items first z pair.0 pair.1) (sym is_x) over),
      )
    ];
    complete = λ s t h. elim ((take_step pairs index pair (s, t) here).0 h) [
      | inl old ↦ elim (r.complete s t old) [
        | inl a ↦ inl a
        | inr (x, d, m, o) ↦ inr (x, d, (pushed x d).1 (inl m), o)
      ]
      | inr same ↦ inr (second, first, (pushed second first).1 (inr (refl, refl)), subst (λ (p : ℕ × ℕ). IsPairOver items first second p.0 p.1) same over)
    ];
  }

pub none_lifted_yet : (items : List Item) (pairs : List (ℕ × ℕ)) (asked : List (List ℕ)) → length asked ≡ length items → ((x d : ℕ) → ¬ IsAskedAt asked x d) → IsLiftedTo items pairs 0 asked
none_lifted_yet items pairs asked count none = record { count = count; sound = λ x d m. absurd (none x d m); complete = λ s t h. absurd (in_none (s, t) h) }

pub lifted_whole : (items : List Item) (pairs : List (ℕ × ℕ)) (index : ℕ) (asked : List (List ℕ)) → take index pairs ≡ pairs → IsLiftedTo items pairs index asked → AreLifted items pairs asked
lifted_whole items pairs index asked all r = record { count = r.count; sound = r.sound; complete = λ s t h. r.complete s t (subst (λ z. Contains z (s, t)) (sym all) h) }

pub lifted_siblings : (items : List Item) (pairs : List (ℕ × ℕ)) (asked : List (List ℕ)) → AreLifted items pairs asked → AreSiblingRows items asked
lifted_siblings items pairs asked r = record {
  count = r.count;
  siblings = λ x d m. (let (s, t, _, o) = r.sound x d m in (o.first, o.second, o.parents));
}

-- the tables when all items have their rows
pub record HasTables (items : List Item) (asked : List (List ℕ)) (parents : List (Option ℕ)) (children before : List (Vec ℕ Global)) : Type 0 where
  pub parents_len : length parents ≡ length items
  pub children_len : length children ≡ length items
  pub before_len : length before ≡ length items
  pub parents_at : (k : ℕ) → k < length items → slice_get parents k ≡ Some (parent_in items k)
  pub children_at : (k : ℕ) → k < length items → (x : ℕ) → Contains (row_at (slice_get children k)) x ↔ ((x < length items) × (parent_in items x ≡ Some k))
  pub before_at : (k : ℕ) → k < length items → (d : ℕ) → Contains (row_at (slice_get before k)) d ↔ MustPrecede items asked d k

pub has_tables : (items : List Item) (asked more : List (List ℕ)) (parents : List (Option ℕ)) (children before : List (Vec ℕ Global)) → AreSiblingRows items asked → length more ≡ length asked
    → AreWithFirst items (length items) asked more → length parents ≡ length items → ((k : ℕ) → k < length items → slice_get parents k ≡ Some (parent_in items k)) → AreChildRows items children → AreListed more before
    → HasTables items asked parents children before
has_tables items asked more parents children before siblings len first parents_len parents_at child listed = record {
  parents_len = parents_len;
  children_len = child.count;
  before_len = listed.count ∙ len ∙ siblings.count;
  parents_at = parents_at;
  children_at = child.children;
  before_at = λ k lt d.
      (let same : row_at (slice_get before k) ≡ numbers_at more k = (let e = len ∙ siblings.count in listed.same k (omega (arith, lt, e))) in (
        (λ h. elim ((first k d).0 (subst (λ z. Contains z d) same h)) [
          | inl there ↦ ((siblings.siblings k d there).0, inl there)
          | inr (_, (c, sd, sx)) ↦ (slot_below items d (c, true) sd, inr (c, sd, sx))
        ]),
        (λ (_, m). subst (λ z. Contains z d) (sym same) ((first k d).1 (elim m [ inl there ↦ inl there | inr is ↦ inr (lt, is) ]))),
      ));
}

module _ (items : List Item) (asked : List (List ℕ)) (parents : List (Option ℕ)) (children before : List (Vec ℕ Global)) (slots : AreSlots items)
    (marked : AreSiblingRows items asked) (has : HasTables items asked parents children before) where
  pub parent_of : (k : ℕ) → parent_at (slice_get parents k) ≡ parent_in items k
  parent_of k = elim (cases_lt k (length items)) [
    | inl lt ↦ ap parent_at (has.parents_at k lt)
    | inr ge ↦ (
        let len = has.parents_len in
        ap parent_at (slice_get_past parents k (omega arith)) ∙ sym (ap above (ap slot_in (slice_get_past items k (omega arith)))))
  ]

  past_row : (rows : List (Vec ℕ Global)) (k x : ℕ) → length rows ≤ k → Contains (row_at (slice_get rows k)) x → ⊥
  past_row rows k x le h = in_none x (subst (λ z. Contains (row_at z) x) (slice_get_past rows k le) h)

  child_of : (k x : ℕ) → Contains (row_at (slice_get children k)) x → (x < length items) × (parent_in items x ≡ Some k)
  child_of k x h = elim (cases_lt k (length items)) [
    | inl lt ↦ (has.children_at k lt x).0 h
    | inr ge ↦ absurd (let len = has.children_len in past_row children k x (omega arith) h)
  ]

  pub must_of : (x d : ℕ) → Contains (row_at (slice_get before x)) d ↔ ((x < length items) × MustPrecede items asked d x)
  must_of x d = (
    (λ h. elim (cases_lt x (length items)) [
      | inl lt ↦ (lt, (has.before_at x lt d).0 h)
      | inr ge ↦ absurd (let len = has.before_len in past_row before x d (omega arith) h)
    ]),
    (λ (lt, m). (has.before_at x lt d).1 m),
  )

  parent_below : (x k : ℕ) → parent_in items x ≡ Some k → (x < length items) × (k < length items)
  parent_below x k e = at (slot_at items x) refl e
    where
      at : (v : Slot) → slot_at items x ≡ v → above v ≡ Some k → (x < length items) × (k < length items)
      at None is e' = absurd cc
      at (Some (j, b)) is e' = (let lt = slot_below items x (j, b) is in let same : j ≡ k = cc in (lt, subst (λ z. z < length items) same (slots x j b lt is)))

  siblings_of : (x d : ℕ) → MustPrecede items asked d x → parent_in items d ≡ parent_in items x
  siblings_of x d (lt, inl m) = (marked.siblings x d m).2
  siblings_of x d (lt, inr (c, sd, sx)) = ap above sd ∙ sym (ap above sx)

  pub forest_there : IsForest (forest_in parents children before)
  forest_there = record {
    down = λ k x h. (let (lt, e) = child_of k x h in let len = has.parents_len in (omega (arith, lt, len), parent_of x ∙ e));
    up = λ k x e.
        (let e' : parent_in items x ≡ Some k = sym (parent_of x) ∙ e in
        let (lt, lk) = parent_below x k e' in
        in_is_in (row_at (slice_get children k)) x ((has.children_at k lk x).1 (lt, e')));
    siblings = λ x d h.
        (let (lt, m) = (must_of x d).0 h in
        let len = has.parents_len in
        let lt_d = m.0 in
        (omega (arith, lt, len), omega (arith, lt_d, len), parent_of d ∙ siblings_of x d m ∙ sym (parent_of x)));
  }

pub tables_there : (items : List Item) (asked : List (List ℕ)) (b : Blocks) → AreSlots items → AreSiblingRows items asked → HasTables items asked b.parents.items b.children.items b.before.items
    → AreTablesOf items asked b
tables_there items asked b slots marked has = record {
  forest = forest_there items asked b.parents.items b.children.items b.before.items slots marked has;
  count = (let len = has.parents_len in search (rules, len));
  parents = parent_of items asked b.parents.items b.children.items b.before.items slots marked has;
  before = must_of items asked b.parents.items b.children.items b.before.items slots marked has;
}

pub if_none : {X P : Type 0} (o : Option X) → IfNone o P → o ≡ None → P
if_none None h e = h
if_none (Some x) h e = absurd cc

pub if_some : {X : Type 0} (P : X → Type 0) (o : Option X) (x : X) → IfSome o P → o ≡ Some x → P x
if_some P None x h e = absurd cc
if_some P (Some y) x h e = subst P (some_inj y x e) h

pub more_some : {X : Type 0} (P Q : X → Type 0) (o : Option X) → ((x : X) → P x → Q x) → IfSome o P → IfSome o Q
more_some P Q None f h = tt
more_some P Q (Some x) f h = f x h

pub more_none : {X P Q : Type 0} (o : Option X) → (P → Q) → IfNone o P → IfNone o Q
more_none None f h = f h
more_none (Some x) f h = tt
