-- Steps of the loops over items: levels, children, what must come before, marks.
use Rattle.std.proofs.Common.{◌≡◌, ℕ, zero, suc, ◌+◌, ◌-◌, ◌<◌, ◌≤◌, ◌⊎◌, ◌↔◌, inl, inr, Bool, true, false, Option, Some, None, IsSome, List, [], ◌∷◌, ◌++◌, length, get_or, take, Contains, slice_get, refl, sym, ap, ◌∙◌, subst, arith}
use Rattle.std.proofs.lemmas.Bool.{cases_eq}
use Rattle.std.proofs.lemmas.List.{take_more}
use Rattle.hpr_terms.specs.declared.limits.TheConstants.{MAX_LEVELS, MAX_PARTS}
use Rattle.std.proofs.lemmas.List.Elements.{Contains-append_left, Contains-append_right, Contains-append_cases}
use Rattle.std.proofs.lemmas.Option.{slice_get_within, slice_get_read, get_or_from_slice_get}
use Rattle.hpr_terms.specs.declared.tag.Tag.{Tag}
use Rattle.hpr_terms.proofs.Facts.{is_some_at, get_below, at_end}
use Rattle.hpr_syntax.specs.declared.rows.Content.{Content}
use Rattle.hpr_forest.proofs.Unique.{in_none, in_cons, in_first}
use Rattle.hpr_forest.specs.Trees.{Slot}
use Rattle.hpr_order.specs.declared.item.Item.{Item}
use Rattle.hpr_order.specs.Building.{IsSlot}
use Rattle.hpr_order.specs.Items.{AreSlots, IsItem, slot_at, slot_in}
use Rattle.hpr_order.specs.Lifting.{level_of}
use Rattle.hpr_order.specs.Limits.{IsWithinLimits, is_unfit, level_in, one_more}
use Rattle.hpr_order.proofs.ListFacts.{one_get, push_old}

pub read_of : {X : Type 0} (xs : List X) (i : ℕ) (x : X) → i < length xs → x ≡ get_or xs i x → slice_get xs i ≡ Some x
read_of xs i x lt is = slice_get_read xs (length xs) i x refl lt is

pub slot_fits : (items : List Item) (k : ℕ) (i : Item) → AreSlots items → slice_get items k ≡ Some i → IsSlot (length items) i.slot
slot_fits items k i slots e = at i.slot refl
  where
    at : (v : Slot) → i.slot ≡ v → IsSlot (length items) v
    at None is = tt
    at (Some (j, b)) is = slots k j b (slice_get_within items k i e) (ap slot_in e ∙ is)

pub level_more : (items : List Item) (most item : ℕ) (b : Bool) (i : Item) (o : Option ℕ) (v : Slot) → (most ≡ 0 → ⊥) → slice_get items item ≡ Some i
    → o ≡ level_in (slot_at items) (most - 1) i.slot → v ≡ Some (item, b) → one_more o ≡ level_in (slot_at items) most v
level_more items zero item b i o v ne e is at = absurd (ne refl)
level_more items (suc n) item b i o v ne e is at =
    let less : suc n - 1 ≡ n = omega arith in
    ap one_more (is ∙ ap (λ z. level_in (slot_at items) z i.slot) less ∙ ap (level_in (slot_at items) n) (sym (ap slot_in e)))
    ∙ sym (ap (level_in (slot_at items) (suc n)) at)

no_some : {X : Type 0} (o : Option X) → o ≡ None → IsSome o → ⊥
no_some None e h = absurd cc
no_some (Some y) e h = absurd cc

-- what the loop over the items has found
pub record IsLevelled (items : List Item) (index : ℕ) (found : List ℕ) : Type 0 where
  pub levels : (k : ℕ) → k < index → level_in (slot_at items) (MAX_LEVELS - 1) (slot_at items k) ≡ Some (level_of found k)
  pub fit : (k : ℕ) (t : Tag) (c : Content) → k < index → IsItem items k t c → is_unfit c ≡ false

pub level_pushed : (items : List Item) (index : ℕ) (levels more : List ℕ) (i : Item) (level : ℕ) → length levels ≡ index → slice_get items index ≡ Some i
    → level_in (slot_at items) (MAX_LEVELS - 1) i.slot ≡ Some level → is_unfit i.content ≡ false → more ≡ levels ++ level ∷ [] → IsLevelled items index levels → IsLevelled items (index + 1) more
level_pushed items index levels more i level len here found fit is r = record {
  levels = λ k lt. elim (cases_eq k index) [
    | inl same ↦ (
        let at : slice_get more k ≡ Some level = subst (λ z. slice_get z k ≡ Some level) (sym is) (subst (λ z. slice_get (levels ++ level ∷ []) z ≡ Some level) (len ∙ sym same) (at_end levels level)) in
        ap (level_in (slot_at items) (MAX_LEVELS - 1)) (ap (slot_at items) same ∙ ap slot_in here) ∙ found ∙ ap Some (sym (get_or_from_slice_get more k level 0 at)))
    | inr other ↦ (
        let less : k < index = omega (arith, lt) in
        let (x, e) = get_below levels k (let l : k < length levels = omega arith in l) in
        let at : slice_get more k ≡ Some x = subst (λ z. slice_get z k ≡ Some x) (sym is) (push_old levels level k x e) in
        r.levels k less ∙ ap Some (get_or_from_slice_get levels k x 0 e ∙ sym (get_or_from_slice_get more k x 0 at)))
  ];
  fit = λ k t c lt item. elim (cases_eq k index) [
    | inl same ↦ (
        let (j, ej, _, jc) = item in
        let one : i ≡ j = one_get items index i j here (subst (λ z. slice_get items z ≡ Some j) same ej) in
        subst (λ z. is_unfit z ≡ false) (ap (λ (z : Item). z.content) one ∙ jc) fit)
    | inr other ↦ r.fit k t c (omega (arith, lt)) item
  ];
}

pub within_all : (items : List Item) (index : ℕ) (levels : List ℕ) → length items ≤ MAX_PARTS → length items ≤ index → IsLevelled items index levels → IsWithinLimits items
within_all items index levels few end r = record {
  parts = few;
  contents = λ k t c i. (let (x, e, _, _) = i in let lt = slice_get_within items k x e in r.fit k t c (omega (arith, lt)) i);
  levels = λ k lt. is_some_at (level_in (slot_at items) (MAX_LEVELS - 1) (slot_at items k)) (level_of levels k) (r.levels k (omega (arith, lt)));
}

pub not_unfit : (items : List Item) (index : ℕ) (i : Item) → slice_get items index ≡ Some i → is_unfit i.content ≡ true → IsWithinLimits items → ⊥
not_unfit items index i e unfit within = let fit = within.contents index i.tag i.content (i, e, refl, refl) in let both : true ≡ false = sym unfit ∙ fit in absurd cc

pub not_shallow : (items : List Item) (index : ℕ) (i : Item) → slice_get items index ≡ Some i → level_in (slot_at items) (MAX_LEVELS - 1) i.slot ≡ None → IsWithinLimits items → ⊥
not_shallow items index i e none within =
    no_some (level_in (slot_at items) (MAX_LEVELS - 1) (slot_at items index)) (ap (level_in (slot_at items) (MAX_LEVELS - 1)) (ap slot_in e) ∙ none) (within.levels index (slice_get_within items index i e))

-- numbers in line
pub line_pushed : (index : ℕ) (ns more : List ℕ) → length ns ≡ index → ((k : ℕ) → k < index → slice_get ns k ≡ Some k) → more ≡ ns ++ index ∷ [] → (k : ℕ) → k < index + 1 → slice_get more k ≡ Some k
line_pushed index ns more len all is k lt = subst (λ z. slice_get z k ≡ Some k) (sym is) (elim (cases_eq k index) [
  | inl same ↦ subst (λ z. slice_get (ns ++ index ∷ []) z ≡ Some z) (sym same) (subst (λ z. slice_get (ns ++ index ∷ []) z ≡ Some index) len (at_end ns index))
  | inr other ↦ push_old ns index k k (all k (omega (arith, lt)))
])

-- one number more, with what belongs to it
pub line_more : {X : Type 0} (Q : ℕ → X → Type 0) (numbers : List ℕ) (items more : List X) (index : ℕ) (x : X) → length items ≡ index → ((n : ℕ) → slice_get numbers index ≡ Some n → Q n x) → more ≡ items ++ x ∷ []
    → ((k n : ℕ) → k < index → slice_get numbers k ≡ Some n → (i : X) × (slice_get items k ≡ Some i) × Q n i)
    → (k n : ℕ) → k < index + 1 → slice_get numbers k ≡ Some n → (i : X) × (slice_get more k ≡ Some i) × Q n i
line_more {X} Q numbers items more index x len here is all k n lt e = elim (cases_eq k index) [
  | inl same ↦ (
    x,
    subst (λ z. slice_get z k ≡ Some x) (sym is) (subst (λ z. slice_get (items ++ x ∷ []) z ≡ Some x) (len ∙ sym same) (at_end items x)),
    here n (subst (λ z. slice_get numbers z ≡ Some n) same e),
  )
  | inr other ↦ (let (i, ei, q) = all k n (omega (arith, lt)) e in (i, subst (λ z. slice_get z k ≡ Some i) (sym is) (push_old items x k i ei), q))
]

-- one item more, with the pairs that are asked of it
pub pairs_more : (Q : ℕ → ℕ → Type 0) (numbers : List ℕ) (place n : ℕ) (old new : List (ℕ × ℕ)) → slice_get numbers place ≡ Some n
    → ((s t : ℕ) → Contains old (s, t) ↔ ((t < place) × ((m : ℕ) × (slice_get numbers t ≡ Some m) × Q m s)))
    → ((s t : ℕ) → Contains new (s, t) ↔ (Contains old (s, t) ⊎ ((t ≡ place) × Q n s)))
    → (s t : ℕ) → Contains new (s, t) ↔ ((t < place + 1) × ((m : ℕ) × (slice_get numbers t ≡ Some m) × Q m s))
pairs_more Q numbers place n old new here all more s t = (
  (λ h. elim ((more s t).0 h) [
    | inl was ↦ (let (lt, a) = (all s t).0 was in (omega (arith, lt), a))
    | inr (same, q) ↦ (omega (arith, same), (n, subst (λ z. slice_get numbers z ≡ Some n) (sym same) here, q))
  ]),
  (λ (lt, (m, em, q)). (more s t).1 (elim (cases_eq t place) [
    | inl same ↦ inr (same, subst (λ z. Q z s) (one_get numbers place m n (subst (λ z. slice_get numbers z ≡ Some m) same em) here) q)
    | inr other ↦ inl ((all s t).1 (omega (arith, lt), (m, em, q)))
  ])),
)

-- one link more
pub links_skip : (Old : ℕ → ℕ → Type 0) (item : ℕ) (A B : ℕ → Type 0) (pairs : List (ℕ × ℕ)) → ((s : ℕ) → A s → B s) → ((s : ℕ) → B s → A s)
    → ((s t : ℕ) → Contains pairs (s, t) ↔ (Old s t ⊎ ((t ≡ item) × A s))) → (s t : ℕ) → Contains pairs (s, t) ↔ (Old s t ⊎ ((t ≡ item) × B s))
links_skip Old item A B pairs to from all s t = (
  (λ h. elim ((all s t).0 h) [ inl a ↦ inl a | inr (e, a) ↦ inr (e, to s a) ]),
  (λ h. (all s t).1 (elim h [ inl a ↦ inl a | inr (e, a) ↦ inr (e, from s a) ])),
)

abbrev pub one_pair : ℕ → ℕ → List (ℕ × ℕ)
one_pair s t = (s, t) ∷ []

pub links_push : (Old : ℕ → ℕ → Type 0) (item source : ℕ) (A B : ℕ → Type 0) (pairs more : List (ℕ × ℕ)) → ((s : ℕ) → A s → B s) → ((s : ℕ) → B s → A s ⊎ (s ≡ source)) → B source
    → more ≡ pairs ++ one_pair source item → ((s t : ℕ) → Contains pairs (s, t) ↔ (Old s t ⊎ ((t ≡ item) × A s))) → (s t : ℕ) → Contains more (s, t) ↔ (Old s t ⊎ ((t ≡ item) × B s))
links_push Old item source A B pairs more to from here is all s t = (
  (λ h. elim (Contains-append_cases pairs (one_pair source item) (s, t) (subst (λ z. Contains z (s, t)) is h)) [
    | inl old ↦ elim ((all s t).0 old) [ inl a ↦ inl a | inr (e, a) ↦ inr (e, to s a) ]
    | inr new ↦ elim (in_cons (source, item) (s, t) [] new) [
      | inl same ↦ inr (sym (ap (λ (p : ℕ × ℕ). p.1) same), subst B (ap (λ (p : ℕ × ℕ). p.0) same) here)
      | inr none ↦ absurd (in_none (s, t) none)
    ]
  ]),
  (λ h. subst (λ z. Contains z (s, t)) (sym is) (elim h [
    | inl a ↦ Contains-append_left pairs (one_pair source item) (s, t) ((all s t).1 (inl a))
    | inr (e, b) ↦ elim (from s b) [
      | inl a ↦ Contains-append_left pairs (one_pair source item) (s, t) ((all s t).1 (inr (e, a)))
      | inr same ↦ Contains-append_right pairs (one_pair source item) (s, t) (pair_there source item s t same e)
    ]
  ])),
)
  where
    pair_there : (source item s t : ℕ) → s ≡ source → t ≡ item → Contains (one_pair source item) (s, t)
    pair_there source item s t a b = subst (λ z. Contains (one_pair source item) (z, t)) (sym a) (subst (λ z. Contains (one_pair source item) (source, z)) (sym b) (in_first (source, item) []))

pub take_step : {X : Type 0} (xs : List X) (index : ℕ) (x y : X) → slice_get xs index ≡ Some x → Contains (take (index + 1) xs) y ↔ (Contains (take index xs) y ⊎ (x ≡ y))
take_step xs index x y e =
    let more : take (index + 1) xs ≡ take index xs ++ x ∷ [] = take_more xs index x (slice_get_within xs index x e) ∙ ap (λ z. take index xs ++ z ∷ []) (get_or_from_slice_get xs index x x e) in (
      (λ h. elim (Contains-append_cases (take index xs) (x ∷ []) y (subst (λ z. Contains z y) more h)) [
        | inl old ↦ inl old
        | inr new ↦ elim (in_cons x y [] new) [ inl same ↦ inr same | inr none ↦ absurd (in_none y none) ]
      ]),
      (λ h. subst (λ z. Contains z y) (sym more) (elim h [
        | inl old ↦ Contains-append_left (take index xs) (x ∷ []) y old
        | inr same ↦ Contains-append_right (take index xs) (x ∷ []) y (subst (λ z. Contains (x ∷ []) z) same (in_first x []))
      ])),
    )
