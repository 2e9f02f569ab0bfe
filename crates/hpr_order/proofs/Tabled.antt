-- From the tables of the items to the orders of the allowed trees.
use Rattle.std.proofs.Common.{◌≡◌, ℕ, ◌<◌, ◌⊎◌, inl, inr, Bool, true, false, Some, None, List, [], ◌∷◌, ◌++◌, length, vec_len, Contains, refl, sym, ap, ◌∙◌, subst, arith, rules}
use Rattle.std.proofs.lemmas.Bool.{cases_lt}
use Rattle.std.proofs.lemmas.List.Elements.{Contains-append_left, Contains-append_right}
use Rattle.std.proofs.lemmas.Option.{slice_get_past}
use Rattle.hpr_forest.specs.Choices.{IsWhole}
use Rattle.hpr_forest.specs.Lists.{LexLess, IsListOf}
use Rattle.hpr_forest.proofs.Unique.{in_none}
use Rattle.hpr_forest.specs.declared.blocks.Blocks.{Blocks}
use Rattle.hpr_forest.specs.ArrangedTrees.{IsArrangedTree, AndBlocks}
use Rattle.hpr_forest.specs.Forest.{Forest, IsForest, IsDistinct, can, bare}
use Rattle.hpr_forest.specs.Lifted.{IsLifted, Leads}
use Rattle.hpr_forest.specs.Remaining.{forest_of, can_of}
use Rattle.hpr_forest.specs.Trees.{Tree as ItemTree, empty, node, preorder, Slot, above, StandsIn, HasSlots}
use Rattle.hpr_forest.proofs.Arranged.{arranged}
use Rattle.hpr_graph.specs.Graphs.{Graph}
use Rattle.hpr_order.specs.declared.item.Item.{Item}
use Rattle.hpr_order.specs.Items.{Asks, slot_at, slot_in}
use Rattle.hpr_order.specs.Lifting.{LeadsTo, IsBelow, parent_in}
use Rattle.hpr_order.specs.Limits.{IsAllowedTree, IsWithinLimits, AreOrdersOf}
use Rattle.hpr_order.specs.Numbers.{AreAsked}
use Rattle.hpr_order.specs.Tables.{AreLifted, AreTablesOf}
use Rattle.hpr_order.proofs.BlockOf.{in_which}
use Rattle.hpr_order.proofs.ReadBack.{first_second}
use Rattle.hpr_order.proofs.Lefts.{LeftIn, left_in, is_left, left_once, left_first, left_second}

pub slot_below : (items : List Item) (k : ℕ) (v : ℕ × Bool) → slot_at items k ≡ Some v → k < length items
slot_below items k v e = elim (cases_lt k (length items)) [
  | inl lt ↦ lt
  | inr le ↦ absurd (let none : slot_at items k ≡ None = ap slot_in (slice_get_past items k (omega arith)) in let both : Some v ≡ None = sym e ∙ none in absurd cc)
]

-- what an item stands under is before it
module _ (items : List Item) where
  over_left : (t : ItemTree) (v : Slot) (a k : ℕ) → StandsIn (slot_at items) v t → Contains (preorder t) k → parent_in items k ≡ Some a
      → (above v ≡ Some a) ⊎ LeftIn (preorder t) a k
  over_left empty v a k st h e = absurd (in_none k h)
  over_left (node c y n r) v a k st h e = elim (in_which c y n r k h) [
    | inl is ↦ inl (sym (ap above (subst (λ z. slot_at items z ≡ v) is st.0)) ∙ e)
    | inr (inl one) ↦ inr (elim (over_left y (Some (c, true)) a k st.1 one e) [
      | inl is ↦ inl ((let s : c ≡ a = cc in s), tail y n r k (inl one))
      | inr l ↦ inr (left_first (preorder y) (preorder n ++ preorder r) a k l)
    ])
    | inr (inr (inl two)) ↦ inr (elim (over_left n (Some (c, false)) a k st.2 two e) [
      | inl is ↦ inl ((let s : c ≡ a = cc in s), tail y n r k (inr (inl two)))
      | inr l ↦ inr (left_second (preorder y) (preorder n ++ preorder r) a k (left_first (preorder n) (preorder r) a k l))
    ])
    | inr (inr (inr three)) ↦ elim (over_left r v a k st.3 three e) [
      | inl is ↦ inl is
      | inr l ↦ inr (inr (left_second (preorder y) (preorder n ++ preorder r) a k (left_second (preorder n) (preorder r) a k l)))
    ]
  ]
    where
      tail : (y n r : ItemTree) (k : ℕ) → Contains (preorder y) k ⊎ (Contains (preorder n) k ⊎ Contains (preorder r) k) → Contains (preorder y ++ (preorder n ++ preorder r)) k
      tail y n r k (inl a) = Contains-append_left (preorder y) (preorder n ++ preorder r) k a
      tail y n r k (inr (inl a)) = Contains-append_right (preorder y) (preorder n ++ preorder r) k (Contains-append_left (preorder n) (preorder r) k a)
      tail y n r k (inr (inr a)) = Contains-append_right (preorder y) (preorder n ++ preorder r) k (Contains-append_right (preorder n) (preorder r) k a)

  left_then : (l : List ℕ) (a b c : ℕ) → IsDistinct l → LeftIn l a b → LeftIn l b c → LeftIn l a c
  left_then [] a b c once h k = h
  left_then (x ∷ xs) a b c once (inl h) (inl k) = absurd (once.0 (subst (Contains xs) (sym k.0) h.1))
  left_then (x ∷ xs) a b c once (inl h) (inr k) = inl (h.0, (left_in xs b c k).1)
  left_then (x ∷ xs) a b c once (inr h) (inl k) = absurd (once.0 (subst (Contains xs) (sym k.0) (left_in xs a b h).1))
  left_then (x ∷ xs) a b c once (inr h) (inr k) = inr (left_then xs a b c once.1 h k)

  parent_below : (k a : ℕ) → parent_in items k ≡ Some a → k < length items
  parent_below k a e = at (slot_at items k) refl e
    where
      at : (v : Slot) → slot_at items k ≡ v → above v ≡ Some a → k < length items
      at None is e' = absurd cc
      at (Some v) is e' = slot_below items k v is

  one_over : (t : ItemTree) (a c : ℕ) → StandsIn (slot_at items) None t → ((j : ℕ) → j < length items → Contains (preorder t) j) → parent_in items c ≡ Some a → LeftIn (preorder t) a c
  one_over t a c st all up = elim (over_left t None a c st (all c (parent_below c a up)) up) [ inl is ↦ absurd cc | inr l ↦ l ]

  below_left : (t : ItemTree) (a k c : ℕ) (via : List ℕ) → StandsIn (slot_at items) None t → IsDistinct (preorder t) → ((j : ℕ) → j < length items → Contains (preorder t) j)
      → LeadsTo items a (c ∷ via) k → LeftIn (preorder t) a k
  below_left t a k c [] st once all (up, is) = subst (LeftIn (preorder t) a) is (one_over t a c st all up)
  below_left t a k c (d ∷ via) st once all (up, rest) = left_then (preorder t) a c k once (one_over t a c st all up) (below_left t c k d via st once all rest)

  leads_in : (f : Forest) → ((k : ℕ) → f.parent k ≡ parent_in items k) → (a : ℕ) (via : List ℕ) (k : ℕ) → LeadsTo items a via k → Leads f a via k
  leads_in f same a [] k h = h
  leads_in f same a (c ∷ via) k (e, h) = (same c ∙ e, leads_in f same c via k h)

-- no tree is allowed where the items break a limit, or one must stand to the left of one that it stands under
none_allowed : (g : Graph) (items : List Item) → ((t : ItemTree) → IsAllowedTree g items t → ⊥) → AreOrdersOf g items []
none_allowed g items no_tree = ([], refl, record { sound = λ t h. absurd (in_none t h); complete = λ t a. absurd (no_tree t a); ascending = tt })

pub none_lifted : (g : Graph) (items : List Item) (pairs : List (ℕ × ℕ)) → AreAsked g items pairs
    → (IsWithinLimits items → (s t : ℕ) × Contains pairs (s, t) × IsBelow items t s) → AreOrdersOf g items []
none_lifted g items pairs are never = none_allowed g items (λ f a.
    let (s, t, h, (c, via, leads)) = never a.limits in
    let back : LeftIn (preorder f) t s = below_left items f t s c via a.arranged.stands a.arranged.once a.arranged.all leads in
    elim (a.arranged.respects s t ((are s t).0 h)) [
      | inl same ↦ (let twice : LeftIn (preorder f) t t = subst (LeftIn (preorder f) t) same back in left_once (preorder f) t t a.arranged.once twice twice)
      | inr left ↦ left_once (preorder f) t s a.arranged.once back (is_left (preorder f) s t left)
    ])

module _ (g : Graph) (items : List Item) (pairs : List (ℕ × ℕ)) (asked : List (List ℕ)) (b : Blocks)
    (tables : AreTablesOf items asked b) (lifted : AreLifted items pairs asked) (are : AreAsked g items pairs) where
  has_slots : HasSlots (forest_of b) (slot_at items)
  has_slots = record {
    parents = tables.parents;
    labels = λ x d c sx sd. (tables.before x d).1 (slot_below items x (c, false) sx, (slot_below items d (c, true) sd, inr (c, sd, sx)));
  }

  parents_same : (d x : ℕ) → parent_in items d ≡ parent_in items x → (forest_of b).parent d ≡ (forest_of b).parent x
  parents_same d x e = tables.parents d ∙ e ∙ sym (tables.parents x)

  is_lifted : IsLifted (forest_of b) (AndBlocks (slot_at items) (Asks g items))
  is_lifted = record {
    sound = λ x d h. elim ((tables.before x d).0 h).1.1 [
      | inl marked ↦ (
          let (s, t, in_pairs, pair) = lifted.sound x d marked in
          let (a, la) = pair.under_first in
          let (c, lc) = pair.under_second in
          (parents_same d x pair.parents, pair.differ, (s, t, a, c, inl ((are s t).0 in_pairs), leads_in items (forest_of b) tables.parents d a s la, leads_in items (forest_of b) tables.parents x c t lc)))
      | inr (c, sd, sx) ↦ (
        parents_same d x (ap above sd ∙ sym (ap above sx)),
        (λ same. first_second (slot_at items x) c c (subst (λ z. slot_at items z ≡ Some (c, true)) same sd) sx),
        (d, x, [], [], inr (c, sd, sx), refl, refl),
      )
    ];
    complete = λ s t e. elim e [
      | inl ask ↦ elim (lifted.complete s t ((are s t).1 ask)) [
        | inl (inl same) ↦ inl same
        | inl (inr (c, via, leads)) ↦ inr (inl (c, via, leads_in items (forest_of b) tables.parents s (c ∷ via) t leads))
        | inr (x, d, marked, pair) ↦ (
            let (a, la) = pair.under_first in
            let (c, lc) = pair.under_second in
            inr (inr (x, d, a, c, (tables.before x d).1 (pair.second, (pair.first, inl marked)), leads_in items (forest_of b) tables.parents d a s la, leads_in items (forest_of b) tables.parents x c t lc)))
      ]
      | inr (c, is_s, is_t) ↦ inr (inr (t, s, [], [], (tables.before t s).1 (slot_below items t (c, false) is_t, (slot_below items s (c, true) is_s, inr (c, is_s, is_t))), refl, refl))
    ];
  }

  bare_forest : IsForest (bare (forest_of b))
  bare_forest = record { down = tables.forest.down; up = tables.forest.up; siblings = λ x y h. absurd (in_none y h) }

  pub orders_allowed : (orders : List (List ℕ)) → IsWithinLimits items → IsListOf LexLess (IsWhole (can_of b) (vec_len b.parents)) orders → AreOrdersOf g items orders
  orders_allowed orders within list =
      let count : length b.parents.items ≡ vec_len b.parents = search rules in
      let list' : IsListOf LexLess (IsWhole (can (forest_of b)) (length b.parents.items)) orders = subst (λ z. IsListOf LexLess (IsWhole (can_of b) z) orders) (sym count) list in
      let (ts, e, all) = arranged (forest_of b) tables.forest bare_forest (slot_at items) has_slots (Asks g items) is_lifted orders list' in
      let n : length b.parents.items ≡ length items = count ∙ tables.count in (
        ts,
        e,
        record {
          sound = λ t h. record { limits = within; arranged = subst (λ z. IsArrangedTree z (slot_at items) (Asks g items) t) n (all.sound t h) };
          complete = λ t a. all.complete t (subst (λ z. IsArrangedTree z (slot_at items) (Asks g items) t) (sym n) a.arranged);
          ascending = all.ascending;
        },
      )
