-- Blocks and the trees of items that they are: what is said where, and what stands in what.
use Rattle.std.proofs.Common.{◌≡◌, ℕ, ◌⊎◌, inl, inr, true, false, Some, None, List, [], ◌∷◌, ◌++◌, Contains, refl, sym, ap, ◌∙◌, subst}
use Rattle.std.proofs.lemmas.List.Elements.{Contains-append_left, Contains-append_right, Contains-append_cases}
use Rattle.hpr_terms.specs.declared.tag.Tag.{Tag}
use Rattle.hpr_syntax.specs.declared.rows.Content.{Content}
use Rattle.hpr_syntax.specs.declared.rows.Content.TheVariants.{If, While}
use Rattle.hpr_syntax.specs.Rows.{content_by, Parent}
use Rattle.hpr_syntax.specs.Body.{Body, done, action, branch, loop}
use Rattle.hpr_syntax.specs.Nests.{Standing, StandsAs, Says}
use Rattle.hpr_forest.proofs.Unique.{in_none, in_cons, in_first, in_later}
use Rattle.hpr_forest.specs.Trees.{Tree, empty, node, preorder, Slot, StandsIn}
use Rattle.hpr_order.specs.declared.item.Item.{Item}
use Rattle.hpr_order.specs.Items.{IsItem}

-- the block of a tree: each part is that of its item, and an item has the blocks that its part has
abbrev pub IsBlockOf : List Item → Tree → Body → Type 0
IsBlockOf items empty done = Unit {0}
IsBlockOf items empty (action t d rest) = ⊥
IsBlockOf items empty (branch t e p q rest) = ⊥
IsBlockOf items empty (loop t e p rest) = ⊥
IsBlockOf items (node c y n r) done = ⊥
IsBlockOf items (node c y n r) (action t d rest) = IsItem items c t (content_by d) × IsBlockOf items y done × IsBlockOf items n done × IsBlockOf items r rest
IsBlockOf items (node c y n r) (branch t e p q rest) = IsItem items c t (If e) × IsBlockOf items y p × IsBlockOf items n q × IsBlockOf items r rest
IsBlockOf items (node c y n r) (loop t e p rest) = IsItem items c t (While e) × IsBlockOf items y p × IsBlockOf items n done × IsBlockOf items r rest

-- the item k stands in the slot w of a tree that stands in the slot v
abbrev pub Places : Tree → Slot → ℕ → Slot → Type 0
Places empty v k w = ⊥
Places (node c y n r) v k w = ((k ≡ c) × (w ≡ v)) ⊎ (Places y (Some (c, true)) k w ⊎ (Places n (Some (c, false)) k w ⊎ Places r v k w))

abbrev pub HasTag : List Item → ℕ → Tag → Type 0
HasTag items k t = (c : Content) × IsItem items k t c

-- what stands around a part of the slot w
abbrev pub IsParent : List Item → Slot → Parent → Type 0
IsParent items None up = up ≡ None
IsParent items (Some (k, b)) up = (t : Tag) × (c : Content) × IsItem items k t c × (up ≡ Some (t, b))

-- the items of a tree: its first, and those of its blocks and of the rest
pub in_one : (c : ℕ) (y n r : Tree) (k : ℕ) → Contains (preorder y) k → Contains (preorder (node c y n r)) k
in_one c y n r k h = in_later c k (preorder y ++ (preorder n ++ preorder r)) (Contains-append_left (preorder y) (preorder n ++ preorder r) k h)

pub in_two : (c : ℕ) (y n r : Tree) (k : ℕ) → Contains (preorder n) k → Contains (preorder (node c y n r)) k
in_two c y n r k h =
    in_later c k (preorder y ++ (preorder n ++ preorder r)) (Contains-append_right (preorder y) (preorder n ++ preorder r) k (Contains-append_left (preorder n) (preorder r) k h))

pub in_three : (c : ℕ) (y n r : Tree) (k : ℕ) → Contains (preorder r) k → Contains (preorder (node c y n r)) k
in_three c y n r k h =
    in_later c k (preorder y ++ (preorder n ++ preorder r)) (Contains-append_right (preorder y) (preorder n ++ preorder r) k (Contains-append_right (preorder n) (preorder r) k h))

pub in_which : (c : ℕ) (y n r : Tree) (k : ℕ) → Contains (preorder (node c y n r)) k
    → (c ≡ k) ⊎ (Contains (preorder y) k ⊎ (Contains (preorder n) k ⊎ Contains (preorder r) k))
in_which c y n r k h = elim (in_cons c k (preorder y ++ (preorder n ++ preorder r)) h) [
  | inl is ↦ inl is
  | inr later ↦ elim (Contains-append_cases (preorder y) (preorder n ++ preorder r) k later) [
    | inl a ↦ inr (inl a)
    | inr b ↦ elim (Contains-append_cases (preorder n) (preorder r) k b) [
      | inl a ↦ inr (inr (inl a))
      | inr a ↦ inr (inr (inr a))
    ]
  ]
]

pub place_in : (t : Tree) (v : Slot) (k : ℕ) (w : Slot) → Places t v k w → Contains (preorder t) k
place_in empty v k w p = absurd p
place_in (node c y n r) v k w (inl p) = subst (Contains (preorder (node c y n r))) (sym p.0) (in_first c (preorder y ++ (preorder n ++ preorder r)))
place_in (node c y n r) v k w (inr (inl p)) = in_one c y n r k (place_in y (Some (c, true)) k w p)
place_in (node c y n r) v k w (inr (inr (inl p))) = in_two c y n r k (place_in n (Some (c, false)) k w p)
place_in (node c y n r) v k w (inr (inr (inr p))) = in_three c y n r k (place_in r v k w p)

pub in_place : (t : Tree) (v : Slot) (k : ℕ) → Contains (preorder t) k → (w : Slot) × Places t v k w
in_place empty v k h = absurd (in_none k h)
in_place (node c y n r) v k h = elim (in_which c y n r k h) [
  | inl is ↦ (v, inl (sym is, refl))
  | inr (inl a) ↦ (let (w, p) = in_place y (Some (c, true)) k a in (w, inr (inl p)))
  | inr (inr (inl a)) ↦ (let (w, p) = in_place n (Some (c, false)) k a in (w, inr (inr (inl p))))
  | inr (inr (inr a)) ↦ (let (w, p) = in_place r v k a in (w, inr (inr (inr p))))
]

-- each item stands in its own slot exactly where its place is its slot
pub slot_of_place : (slot : ℕ → Slot) (t : Tree) (v : Slot) (k : ℕ) (w : Slot) → StandsIn slot v t → Places t v k w → slot k ≡ w
slot_of_place slot empty v k w h p = absurd p
slot_of_place slot (node c y n r) v k w h (inl p) = ap slot p.0 ∙ h.0 ∙ sym p.1
slot_of_place slot (node c y n r) v k w h (inr (inl p)) = slot_of_place slot y (Some (c, true)) k w h.1 p
slot_of_place slot (node c y n r) v k w h (inr (inr (inl p))) = slot_of_place slot n (Some (c, false)) k w h.2 p
slot_of_place slot (node c y n r) v k w h (inr (inr (inr p))) = slot_of_place slot r v k w h.3 p

pub stands_by_place : (slot : ℕ → Slot) (t : Tree) (v : Slot) → ((k : ℕ) (w : Slot) → Places t v k w → slot k ≡ w) → StandsIn slot v t
stands_by_place slot empty v all = tt
stands_by_place slot (node c y n r) v all = (
  all c v (inl (refl, refl)),
  stands_by_place slot y (Some (c, true)) (λ k w p. all k w (inr (inl p))),
  stands_by_place slot n (Some (c, false)) (λ k w p. all k w (inr (inr (inl p)))),
  stands_by_place slot r v (λ k w p. all k w (inr (inr (inr p)))),
)

module _ (items : List Item) where
  pub same_part : (k : ℕ) (t u : Tag) (c d : Content) → IsItem items k t c → IsItem items k u d → (t ≡ u) × (c ≡ d)
  same_part k t u c d (i, a, it, ic) (j, b, jt, jc) = let same : i ≡ j = cc in (sym it ∙ ap (λ (x : Item). x.tag) same ∙ jt, sym ic ∙ ap (λ (x : Item). x.content) same ∙ jc)

  none_there : (t : Tree) → IsBlockOf items t done → (k : ℕ) → Contains (preorder t) k → ⊥
  none_there empty h k a = in_none k a
  none_there (node c y n r) h k a = absurd h

  pub none_of : (t : Tree) → IsBlockOf items t done → preorder t ≡ []
  none_of empty h = refl
  none_of (node c y n r) h = absurd h

  said_at : (k : ℕ) (t u : Tag) (c d : Content) → IsItem items k t c → u ≡ t → d ≡ c → IsItem items k u d
  said_at k t u c d (i, a, it, ic) ut dc = (i, a, it ∙ sym ut, ic ∙ sym dc)

  -- what is said is said by an item, and the other way round
  pub says_in : (t : Tree) (b : Body) (u : Tag) (d : Content) → IsBlockOf items t b → Says b u d → (k : ℕ) × Contains (preorder t) k × IsItem items k u d
  says_in empty done u d h s = absurd s
  says_in empty (action t action_ rest) u d h s = absurd h
  says_in empty (branch t e p q rest) u d h s = absurd h
  says_in empty (loop t e p rest) u d h s = absurd h
  says_in (node c y n r) done u d h s = absurd h
  says_in (node c y n r) (action t action_ rest) u d h (inl s) = (c, in_first c _, said_at c t u (content_by action_) d h.0 s.0 s.1)
  says_in (node c y n r) (action t action_ rest) u d h (inr s) = (let (k, a, i) = says_in r rest u d h.3 s in (k, in_three c y n r k a, i))
  says_in (node c y n r) (branch t e p q rest) u d h (inl s) = (c, in_first c _, said_at c t u (If e) d h.0 s.0 s.1)
  says_in (node c y n r) (branch t e p q rest) u d h (inr (inl s)) = (let (k, a, i) = says_in y p u d h.1 s in (k, in_one c y n r k a, i))
  says_in (node c y n r) (branch t e p q rest) u d h (inr (inr (inl s))) = (let (k, a, i) = says_in n q u d h.2 s in (k, in_two c y n r k a, i))
  says_in (node c y n r) (branch t e p q rest) u d h (inr (inr (inr s))) = (let (k, a, i) = says_in r rest u d h.3 s in (k, in_three c y n r k a, i))
  says_in (node c y n r) (loop t e p rest) u d h (inl s) = (c, in_first c _, said_at c t u (While e) d h.0 s.0 s.1)
  says_in (node c y n r) (loop t e p rest) u d h (inr (inl s)) = (let (k, a, i) = says_in y p u d h.1 s in (k, in_one c y n r k a, i))
  says_in (node c y n r) (loop t e p rest) u d h (inr (inr s)) = (let (k, a, i) = says_in r rest u d h.3 s in (k, in_three c y n r k a, i))

  pub in_says : (t : Tree) (b : Body) (u : Tag) (d : Content) (k : ℕ) → IsBlockOf items t b → Contains (preorder t) k → IsItem items k u d → Says b u d
  in_says empty b u d k h a i = absurd (in_none k a)
  in_says (node c y n r) done u d k h a i = absurd h
  in_says (node c y n r) (action t action_ rest) u d k h a i = elim (in_which c y n r k a) [
    | inl is ↦ inl (same_part k u t d (content_by action_) i (subst (λ z. IsItem items z t (content_by action_)) is h.0))
    | inr (inl none) ↦ absurd (none_there y h.1 k none)
    | inr (inr (inl none)) ↦ absurd (none_there n h.2 k none)
    | inr (inr (inr later)) ↦ inr (in_says r rest u d k h.3 later i)
  ]
  in_says (node c y n r) (branch t e p q rest) u d k h a i = elim (in_which c y n r k a) [
    | inl is ↦ inl (same_part k u t d (If e) i (subst (λ z. IsItem items z t (If e)) is h.0))
    | inr (inl one) ↦ inr (inl (in_says y p u d k h.1 one i))
    | inr (inr (inl two)) ↦ inr (inr (inl (in_says n q u d k h.2 two i)))
    | inr (inr (inr later)) ↦ inr (inr (inr (in_says r rest u d k h.3 later i)))
  ]
  in_says (node c y n r) (loop t e p rest) u d k h a i = elim (in_which c y n r k a) [
    | inl is ↦ inl (same_part k u t d (While e) i (subst (λ z. IsItem items z t (While e)) is h.0))
    | inr (inl one) ↦ inr (inl (in_says y p u d k h.1 one i))
    | inr (inr (inl none)) ↦ absurd (none_there n h.2 k none)
    | inr (inr (inr later)) ↦ inr (inr (in_says r rest u d k h.3 later i))
  ]

  -- how a part stands is how its item is placed
  abbrev StandsSo : Tree → Slot → Tag → Standing → Type 0
  StandsSo t v u s = (k : ℕ) × (w : Slot) × Places t v k w × IsItem items k u s.content × IsParent items w s.parent

  stands_here : (t : Tree) (v w : Slot) (k : ℕ) (u u' : Tag) (d : Content) (up : Parent) (s : Standing) → Places t v k w → IsItem items k u' d → IsParent items w up
      → u ≡ u' → s.content ≡ d → s.parent ≡ up → StandsSo t v u s
  stands_here t v w k u u' d up s p i is_up a b e = (k, w, p, said_at k u' u d s.content i a b, subst (IsParent items w) (sym e) is_up)

  pub stands_so : (t : Tree) (b : Body) (nest : List Tag) (up : Parent) (v : Slot) (u : Tag) (s : Standing) → IsBlockOf items t b → IsParent items v up → StandsAs nest up b u s
      → (k : ℕ) × (w : Slot) × Places t v k w × IsItem items k u s.content × IsParent items w s.parent
  stands_so empty done nest up v u s h is_up st = absurd st
  stands_so empty (action t d rest) nest up v u s h is_up st = absurd h
  stands_so empty (branch t e p q rest) nest up v u s h is_up st = absurd h
  stands_so empty (loop t e p rest) nest up v u s h is_up st = absurd h
  stands_so (node c y n r) done nest up v u s h is_up st = absurd h
  stands_so (node c y n r) (action t d rest) nest up v u s h is_up (inl st) =
      stands_here (node c y n r) v v c u t (content_by d) up s (inl (refl, refl)) h.0 is_up st.0 (ap (λ (z : Standing). z.content) st.1) (ap (λ (z : Standing). z.parent) st.1)
  stands_so (node c y n r) (action t d rest) nest up v u s h is_up (inr st) =
      (let (k, w, a, i, o) = stands_so r rest nest up v u s h.3 is_up st in (k, w, inr (inr (inr a)), i, o))
  stands_so (node c y n r) (branch t e p q rest) nest up v u s h is_up (inl st) =
      stands_here (node c y n r) v v c u t (If e) up s (inl (refl, refl)) h.0 is_up st.0 (ap (λ (z : Standing). z.content) st.1) (ap (λ (z : Standing). z.parent) st.1)
  stands_so (node c y n r) (branch t e p q rest) nest up v u s h is_up (inr (inl st)) =
      (let (k, w, a, i, o) = stands_so y p nest (Some (t, true)) (Some (c, true)) u s h.1 (t, If e, h.0, refl) st in (k, w, inr (inl a), i, o))
  stands_so (node c y n r) (branch t e p q rest) nest up v u s h is_up (inr (inr (inl st))) =
      (let (k, w, a, i, o) = stands_so n q nest (Some (t, false)) (Some (c, false)) u s h.2 (t, If e, h.0, refl) st in (k, w, inr (inr (inl a)), i, o))
  stands_so (node c y n r) (branch t e p q rest) nest up v u s h is_up (inr (inr (inr st))) =
      (let (k, w, a, i, o) = stands_so r rest nest up v u s h.3 is_up st in (k, w, inr (inr (inr a)), i, o))
  stands_so (node c y n r) (loop t e p rest) nest up v u s h is_up (inl st) =
      stands_here (node c y n r) v v c u t (While e) up s (inl (refl, refl)) h.0 is_up st.0 (ap (λ (z : Standing). z.content) st.1) (ap (λ (z : Standing). z.parent) st.1)
  stands_so (node c y n r) (loop t e p rest) nest up v u s h is_up (inr (inl st)) =
      (let (k, w, a, i, o) = stands_so y p (nest ++ t ∷ []) (Some (t, true)) (Some (c, true)) u s h.1 (t, While e, h.0, refl) st in (k, w, inr (inl a), i, o))
  stands_so (node c y n r) (loop t e p rest) nest up v u s h is_up (inr (inr st)) =
      (let (k, w, a, i, o) = stands_so r rest nest up v u s h.3 is_up st in (k, w, inr (inr (inr a)), i, o))

  pub so_stands : (t : Tree) (b : Body) (nest : List Tag) (up : Parent) (v : Slot) (k : ℕ) (w : Slot) (u : Tag) (d : Content) → IsBlockOf items t b → IsParent items v up
      → Places t v k w → IsItem items k u d → (s : Standing) × StandsAs nest up b u s × (s.content ≡ d) × IsParent items w s.parent
  so_stands empty b nest up v k w u d h is_up p i = absurd p
  so_stands (node c y n r) done nest up v k w u d h is_up p i = absurd h
  so_stands (node c y n r) (action t action_ rest) nest up v k w u d h is_up (inl p) i =
      (let (a, b) = same_part k u t d (content_by action_) i (subst (λ z. IsItem items z t (content_by action_)) (sym p.0) h.0) in
      (record { content = content_by action_; nest = nest; parent = up }, inl (a, refl), sym b, subst (λ z. IsParent items z up) (sym p.1) is_up))
  so_stands (node c y n r) (action t action_ rest) nest up v k w u d h is_up (inr (inl p)) i = absurd (none_there y h.1 k (place_in y (Some (c, true)) k w p))
  so_stands (node c y n r) (action t action_ rest) nest up v k w u d h is_up (inr (inr (inl p))) i = absurd (none_there n h.2 k (place_in n (Some (c, false)) k w p))
  so_stands (node c y n r) (action t action_ rest) nest up v k w u d h is_up (inr (inr (inr p))) i =
      (let (s, st, o, o2) = so_stands r rest nest up v k w u d h.3 is_up p i in (s, inr st, o, o2))
  so_stands (node c y n r) (branch t e f g rest) nest up v k w u d h is_up (inl p) i =
      (let (a, b) = same_part k u t d (If e) i (subst (λ z. IsItem items z t (If e)) (sym p.0) h.0) in
      (record { content = If e; nest = nest; parent = up }, inl (a, refl), sym b, subst (λ z. IsParent items z up) (sym p.1) is_up))
  so_stands (node c y n r) (branch t e f g rest) nest up v k w u d h is_up (inr (inl p)) i =
      (let (s, st, o, o2) = so_stands y f nest (Some (t, true)) (Some (c, true)) k w u d h.1 (t, If e, h.0, refl) p i in (s, inr (inl st), o, o2))
  so_stands (node c y n r) (branch t e f g rest) nest up v k w u d h is_up (inr (inr (inl p))) i =
      (let (s, st, o, o2) = so_stands n g nest (Some (t, false)) (Some (c, false)) k w u d h.2 (t, If e, h.0, refl) p i in (s, inr (inr (inl st)), o, o2))
  so_stands (node c y n r) (branch t e f g rest) nest up v k w u d h is_up (inr (inr (inr p))) i =
      (let (s, st, o, o2) = so_stands r rest nest up v k w u d h.3 is_up p i in (s, inr (inr (inr st)), o, o2))
  so_stands (node c y n r) (loop t e f rest) nest up v k w u d h is_up (inl p) i =
      (let (a, b) = same_part k u t d (While e) i (subst (λ z. IsItem items z t (While e)) (sym p.0) h.0) in
      (record { content = While e; nest = nest ++ t ∷ []; parent = up }, inl (a, refl), sym b, subst (λ z. IsParent items z up) (sym p.1) is_up))
  so_stands (node c y n r) (loop t e f rest) nest up v k w u d h is_up (inr (inl p)) i =
      (let (s, st, o, o2) = so_stands y f (nest ++ t ∷ []) (Some (t, true)) (Some (c, true)) k w u d h.1 (t, While e, h.0, refl) p i in (s, inr (inl st), o, o2))
  so_stands (node c y n r) (loop t e f rest) nest up v k w u d h is_up (inr (inr (inl p))) i = absurd (none_there n h.2 k (place_in n (Some (c, false)) k w p))
  so_stands (node c y n r) (loop t e f rest) nest up v k w u d h is_up (inr (inr (inr p))) i =
      (let (s, st, o, o2) = so_stands r rest nest up v k w u d h.3 is_up p i in (s, inr (inr st), o, o2))
