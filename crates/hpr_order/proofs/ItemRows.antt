-- Rows of items as they grow: what stands under each item, the items of first blocks, and the latest entries.
use Rattle.std.proofs.Common.{◌≡◌, ℕ, ◌+◌, ◌<◌, ◌≤◌, ◌⊎◌, ◌↔◌, inl, inr, Bool, true, false, IsTrue, Option, Some, None, List, length, replicate, zero, suc, set, take, get_or, Contains, Vec, slice_get, sym, ap, ◌∙◌, subst, arith}
use Rattle.std.specs.Global.{Global}
use Rattle.std.proofs.lemmas.Bool.{cases_eq}
use Rattle.std.proofs.lemmas.List.{length-replicate, length-set, take_all}
use Rattle.hpr_terms.proofs.Facts.{some_inj}
use Rattle.hpr_search.specs.Rows.{numbers_at, IsPushed}
use Rattle.hpr_graph.proofs.Lists.{get_set_same, get_set_other}
use Rattle.hpr_forest.specs.Blocks.{row_at}
use Rattle.hpr_forest.specs.Trees.{above}
use Rattle.hpr_order.specs.declared.item.Item.{Item}
use Rattle.hpr_order.specs.Items.{slot_at, slot_in}
use Rattle.hpr_order.specs.Lifting.{parent_in}
use Rattle.hpr_order.specs.Tables.{AreChildRows, AreLatest, AreListed, AreWithFirst, IsFirstOf}
use Rattle.hpr_order.proofs.Linking.{false_is, true_is}
use Rattle.hpr_order.proofs.Steps.{read_of, take_step}
use Rattle.hpr_order.proofs.Tabled.{slot_below}

-- an entry is made for a number that is put into a row
pub latest_more : (asked more : List (List ℕ)) (latest : List (Option ℕ)) (first second : ℕ) → first < length asked → length more ≡ length asked → IsPushed asked second first more
    → AreLatest asked latest → AreLatest more (set latest first (Some second))
latest_more asked more latest first second lt len pushed old = record {
  count = length-set latest first (Some second) ∙ old.count ∙ sym len;
  there = λ d x is. elim (cases_eq d first) [
    | inl same ↦
        (let now : Some (Some x) ≡ Some (Some second) = sym is ∙ ap (λ (k : ℕ). slice_get (set latest first (Some second)) k) same ∙ get_set_same latest first (Some second) (let e = old.count in omega (arith, lt, e)) in
        let one : x ≡ second = some_inj x second (some_inj (Some x) (Some second) now) in
        (pushed x d).1 (inr (one, same)))
    | inr other ↦ (pushed x d).1 (inl (old.there d x (sym (get_set_other latest first d (Some second) other) ∙ is)))
  ];
}

pub pushed_already : (asked : List (List ℕ)) (latest : List (Option ℕ)) (first second : ℕ) → AreLatest asked latest → slice_get latest first ≡ Some (Some second) → IsPushed asked second first asked
pushed_already asked latest first second old at = λ from to. (
  (λ h. inl h),
  (λ h. elim h [
    | inl there ↦ there
    | inr new ↦ subst (λ k. Contains (numbers_at asked k) to) (sym new.0) (subst (λ k. Contains (numbers_at asked second) k) (sym new.1) (old.there first second at))
  ]),
)

-- no number has an entry at the start
pub none_latest : (asked : List (List ℕ)) (latest : List (Option ℕ)) (n : ℕ) → latest ≡ replicate n None → length asked ≡ n → AreLatest asked latest
none_latest asked latest n is len = record {
  count = ap length is ∙ length-replicate n None ∙ sym len;
  there = λ d x at. absurd (never n d x (sym (ap (λ (xs : List (Option ℕ)). slice_get xs d) is) ∙ at));
}
  where
    never : (n d x : ℕ) → slice_get (replicate n None) d ≡ Some (Some x) → ⊥
    never zero d x at = absurd cc
    never (suc n) zero x at = absurd cc
    never (suc n) (suc d) x at = never n d x at

-- children, up to one item
abbrev pub AreUnderTo : List Item → ℕ → List (List ℕ) → Type 0
AreUnderTo items n rows = (k x : ℕ) → Contains (numbers_at rows k) x ↔ ((x < n) × (parent_in items x ≡ Some k))

pub none_under : (items : List Item) (rows : List (List ℕ)) → ((at n : ℕ) → ¬ Contains (numbers_at rows at) n) → AreUnderTo items 0 rows
none_under items rows none k x = (λ h. absurd (none k x h), λ (lt, _). absurd (omega (arith, lt)))

pub under_top : (items : List Item) (n : ℕ) (rows : List (List ℕ)) → parent_in items n ≡ None → AreUnderTo items n rows → AreUnderTo items (n + 1) rows
under_top items n rows top all k x = (
  (λ h. let (lt, e) = (all k x).0 h in (omega (arith, lt), e)),
  (λ (lt, e). elim (cases_eq x n) [
    | inl same ↦ absurd (let both : Some k ≡ None = sym e ∙ ap (parent_in items) same ∙ top in cc)
    | inr other ↦ (all k x).1 (omega (arith, lt), e)
  ]),
)

pub under_more : (items : List Item) (n parent : ℕ) (rows more : List (List ℕ)) → parent_in items n ≡ Some parent → IsPushed rows parent n more → AreUnderTo items n rows → AreUnderTo items (n + 1) more
under_more items n parent rows more is pushed all k x = (
  (λ h. elim ((pushed k x).0 h) [
    | inl old ↦ (let (lt, e) = (all k x).0 old in (omega (arith, lt), e))
    | inr (is_k, is_x) ↦ (omega (arith, is_x), ap (parent_in items) is_x ∙ is ∙ ap Some (sym is_k))
  ]),
  (λ (lt, e). (pushed k x).1 (elim (cases_eq x n) [
    | inl same ↦ inr (some_inj k parent (sym e ∙ ap (parent_in items) same ∙ is), same)
    | inr other ↦ inl ((all k x).1 (omega (arith, lt), e))
  ])),
)

pub children_listed : (items : List Item) (rows : List (List ℕ)) (lists : List (Vec ℕ Global)) → length rows ≡ length items → AreUnderTo items (length items) rows → AreListed rows lists → AreChildRows items lists
children_listed items rows lists count all listed = record {
  count = listed.count ∙ count;
  children = λ k lt x. subst (λ z. Contains z x ↔ ((x < length items) × (parent_in items x ≡ Some k))) (sym (listed.same k (omega (arith, lt, count)))) (all k x);
}

-- the items of a first block, among the first so many of a list
abbrev pub AreWithSome : List Item → List ℕ → ℕ → List (List ℕ) → List (List ℕ) → Type 0
AreWithSome items some item old new = (x d : ℕ) → Contains (numbers_at new x) d ↔ (Contains (numbers_at old x) d ⊎ ((x ≡ item) × Contains some d × IsFirstOf (slot_at items d) (slot_at items item)))

module _ (items : List Item) (siblings : List ℕ) (index other item : ℕ) (here : slice_get siblings index ≡ Some other) (old now : List (List ℕ)) (all : AreWithSome items (take index siblings) item old now) where
  pub with_skipped : ¬ IsFirstOf (slot_at items other) (slot_at items item) → AreWithSome items (take (index + 1) siblings) item old now
  with_skipped not_first x d = (
    λ h. elim ((all x d).0 h) [ inl was ↦ inl was | inr (is, among, first) ↦ inr (is, (take_step siblings index other d here).1 (inl among), first) ],
    λ h. elim h [
      | inl was ↦ (all x d).1 (inl was)
      | inr (is, among, first) ↦ elim ((take_step siblings index other d here).0 among) [
        | inl before ↦ (all x d).1 (inr (is, before, first))
        | inr same ↦ absurd (not_first (subst (λ (k : ℕ). IsFirstOf (slot_at items k) (slot_at items item)) (sym same) first))
      ]
    ],
  )

  pub with_pushed : (more : List (List ℕ)) → IsFirstOf (slot_at items other) (slot_at items item) → IsPushed now item other more → AreWithSome items (take (index + 1) siblings) item old more
  with_pushed more is_first pushed x d = (
    λ h. elim ((pushed x d).0 h) [
      | inl then ↦ elim ((all x d).0 then) [ inl was ↦ inl was | inr (is, among, first) ↦ inr (is, (take_step siblings index other d here).1 (inl among), first) ]
      | inr (is_x, is_d) ↦ inr (is_x, (take_step siblings index other d here).1 (inr (sym is_d)), subst (λ (k : ℕ). IsFirstOf (slot_at items k) (slot_at items item)) (sym is_d) is_first)
    ],
    λ h. (pushed x d).1 (elim h [
      | inl was ↦ inl ((all x d).1 (inl was))
      | inr (is, among, first) ↦ elim ((take_step siblings index other d here).0 among) [
        | inl before ↦ inl ((all x d).1 (inr (is, before, first)))
        | inr same ↦ inr (is, sym same)
      ]
    ]),
  )

pub with_whole : (items : List Item) (siblings : List ℕ) (index item : ℕ) (old new : List (List ℕ)) → length siblings ≤ index → AreWithSome items (take index siblings) item old new → AreWithSome items siblings item old new
with_whole items siblings index item old new le all = subst (λ z. AreWithSome items z item old new) (take_all index siblings le) all

pub first_skipped : (items : List Item) (item : ℕ) (old now : List (List ℕ)) → ((c : ℕ) → slot_at items item ≡ Some (c, false) → ⊥) → AreWithFirst items item old now → AreWithFirst items (item + 1) old now
first_skipped items item old now not_second all x d = (
  λ h. elim ((all x d).0 h) [ inl was ↦ inl was | inr (lt, first) ↦ inr (omega (arith, lt), first) ],
  λ h. elim h [
    | inl was ↦ (all x d).1 (inl was)
    | inr (lt, (c, sd, sx)) ↦ elim (cases_eq x item) [
      | inl same ↦ absurd (not_second c (ap (slot_at items) (sym same) ∙ sx))
      | inr other ↦ (all x d).1 (inr (omega (arith, lt), (c, sd, sx)))
    ]
  ],
)

pub first_more : (items : List Item) (children : List (Vec ℕ Global)) (item part : ℕ) (siblings : List ℕ) (old now more : List (List ℕ)) → AreChildRows items children → part < length items
    → slot_at items item ≡ Some (part, false) → siblings ≡ row_at (slice_get children part) → AreWithSome items siblings item now more → AreWithFirst items item old now → AreWithFirst items (item + 1) old more
first_more items children item part siblings old now more child within is row pushed all x d = (
  λ h. elim ((pushed x d).0 h) [
    | inl then ↦ elim ((all x d).0 then) [ inl was ↦ inl was | inr (lt, first) ↦ inr (omega (arith, lt), first) ]
    | inr (is_x, _, first) ↦ inr (omega (arith, is_x), subst (λ (k : ℕ). IsFirstOf (slot_at items d) (slot_at items k)) (sym is_x) first)
  ],
  λ h. (pushed x d).1 (elim h [
    | inl was ↦ inl ((all x d).1 (inl was))
    | inr (lt, (c, sd, sx)) ↦ elim (cases_eq x item) [
      | inl same ↦
          (let at : slot_at items item ≡ Some (c, false) = ap (slot_at items) (sym same) ∙ sx in
          let one : part ≡ c = some_inj part c (ap above (sym is ∙ at)) in
          let under : parent_in items d ≡ Some part = ap above sd ∙ ap Some (sym one) in
          inr (same, subst (λ z. Contains z d) (sym row) ((child.children part within d).1 (slot_below items d (c, true) sd, under)), (c, sd, at)))
      | inr other ↦ inl ((all x d).1 (inr (omega (arith, lt), (c, sd, sx))))
    ]
  ]),
)

pub child_within : (items : List Item) (children : List (Vec ℕ Global)) (part d : ℕ) (siblings : List ℕ) → AreChildRows items children → part < length items → siblings ≡ row_at (slice_get children part)
    → Contains siblings d → d < length items
child_within items children part d siblings child within row h = ((child.children part within d).0 (subst (λ z. Contains z d) row h)).0

-- the test of two slots
pub first_here : (items : List Item) (d x : ℕ) {i j : Item} (b : Bool) → slice_get items d ≡ Some i → slice_get items x ≡ Some j → IsTrue b ↔ IsFirstOf i.slot j.slot → b ≡ true → IsFirstOf (slot_at items d) (slot_at items x)
first_here items d x b at_d at_x test is = let (c, one, two) = test.0 (true_is b is) in (c, ap slot_in at_d ∙ one, ap slot_in at_x ∙ two)

pub first_not : (items : List Item) (d x : ℕ) {i j : Item} (b : Bool) → slice_get items d ≡ Some i → slice_get items x ≡ Some j → IsTrue b ↔ IsFirstOf i.slot j.slot → b ≡ false → ¬ IsFirstOf (slot_at items d) (slot_at items x)
first_not items d x b at_d at_x test is (c, one, two) = false_is b is (test.1 (c, sym (ap slot_in at_d) ∙ one, sym (ap slot_in at_x) ∙ two))

-- what is read of a row
pub vec_row : (rows : List (Vec ℕ Global)) (k : ℕ) (row : Vec ℕ Global) (xs : List ℕ) → k < length rows → row ≡ get_or rows k row → xs ≡ row.items → xs ≡ row_at (slice_get rows k)
vec_row rows k row xs within is items = items ∙ sym (ap row_at (read_of rows k row within is))
