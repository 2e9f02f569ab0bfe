-- What stands to the left of what in a block, and in the preorder of its tree.
use Rattle.std.proofs.Common.{◌≡◌, ℕ, ◌⊎◌, inl, inr, List, [], ◌∷◌, ◌++◌, Contains, refl, sym, ap, ◌∙◌, subst}
use Rattle.std.proofs.lemmas.List.Elements.{Contains-append_left, Contains-append_right, Contains-append_cases}
use Rattle.hpr_terms.specs.declared.tag.Tag.{Tag}
use Rattle.hpr_syntax.specs.declared.rows.Content.{Content}
use Rattle.hpr_syntax.specs.declared.rows.Content.TheVariants.{If, While}
use Rattle.hpr_syntax.specs.Rows.{content_by}
use Rattle.hpr_syntax.specs.Body.{Body, done, action, branch, loop}
use Rattle.hpr_syntax.specs.Skeleton.{at, StandsIn, skeleton}
use Rattle.hpr_syntax.specs.Places.{StandsLeft}
use Rattle.hpr_forest.proofs.Unique.{in_none, in_cons, in_first, in_later}
use Rattle.hpr_forest.specs.Forest.{IsDistinct}
use Rattle.hpr_forest.specs.Lifted.{IsLeft}
use Rattle.hpr_forest.specs.Trees.{Tree, empty, node, preorder}
use Rattle.hpr_forest.proofs.Members.{split}
use Rattle.hpr_syntax.proofs.TagLemmas.{point_tag}
use Rattle.hpr_order.specs.declared.item.Item.{Item}
use Rattle.hpr_order.specs.Items.{IsItem}
use Rattle.hpr_order.proofs.BlockOf.{IsBlockOf, HasTag, same_part, in_one, in_two, in_three, in_which, none_of}

-- s stands before t in the list
abbrev pub LeftIn : List ℕ → ℕ → ℕ → Type 0
LeftIn [] s t = ⊥
LeftIn (x ∷ xs) s t = ((x ≡ s) × Contains xs t) ⊎ LeftIn xs s t

pub left_first : (xs ys : List ℕ) (s t : ℕ) → LeftIn xs s t → LeftIn (xs ++ ys) s t
left_first [] ys s t h = absurd h
left_first (x ∷ xs) ys s t (inl h) = inl (h.0, Contains-append_left xs ys t h.1)
left_first (x ∷ xs) ys s t (inr h) = inr (left_first xs ys s t h)

left_across : (xs ys : List ℕ) (s t : ℕ) → Contains xs s → Contains ys t → LeftIn (xs ++ ys) s t
left_across [] ys s t h k = absurd (in_none s h)
left_across (x ∷ xs) ys s t h k = elim (in_cons x s xs h) [
  | inl is ↦ inl (is, Contains-append_right xs ys t k)
  | inr later ↦ inr (left_across xs ys s t later k)
]

pub left_second : (xs ys : List ℕ) (s t : ℕ) → LeftIn ys s t → LeftIn (xs ++ ys) s t
left_second [] ys s t h = h
left_second (x ∷ xs) ys s t h = inr (left_second xs ys s t h)

left_cases : (xs ys : List ℕ) (s t : ℕ) → LeftIn (xs ++ ys) s t → LeftIn xs s t ⊎ ((Contains xs s × Contains ys t) ⊎ LeftIn ys s t)
left_cases [] ys s t h = inr (inr h)
left_cases (x ∷ xs) ys s t (inl (is, h)) = elim (Contains-append_cases xs ys t h) [
  | inl a ↦ inl (inl (is, a))
  | inr b ↦ inr (inl (subst (Contains (x ∷ xs)) is (in_first x xs), b))
]
left_cases (x ∷ xs) ys s t (inr h) = elim (left_cases xs ys s t h) [
  | inl a ↦ inl (inr a)
  | inr (inl b) ↦ inr (inl (in_later x s xs b.0, b.1))
  | inr (inr c) ↦ inr (inr c)
]

pub left_is : (l : List ℕ) (s t : ℕ) → LeftIn l s t → IsLeft l s t
left_is [] s t h = absurd h
left_is (x ∷ xs) s t (inl (is, h)) = (let (a, b, e) = split xs t h in (x ∷ a, b, ap (λ z. x ∷ z) e, subst (Contains (x ∷ a)) is (in_first x a)))
left_is (x ∷ xs) s t (inr h) = (let (a, b, e, k) = left_is xs s t h in (x ∷ a, b, ap (λ z. x ∷ z) e, in_later x s a k))

pub is_left : (l : List ℕ) (s t : ℕ) → IsLeft l s t → LeftIn l s t
is_left l s t (a, b, e, h) = subst (λ z. LeftIn z s t) (sym e) (left_across a (t ∷ b) s t h (in_first t b))

pub left_in : (l : List ℕ) (s t : ℕ) → LeftIn l s t → Contains l s × Contains l t
left_in [] s t h = absurd h
left_in (x ∷ xs) s t (inl (is, h)) = (subst (Contains (x ∷ xs)) is (in_first x xs), in_later x t xs h)
left_in (x ∷ xs) s t (inr h) = (let (a, b) = left_in xs s t h in (in_later x s xs a, in_later x t xs b))

-- of two items in a list one stands before the other
pub one_left : (l : List ℕ) (s t : ℕ) → Contains l s → Contains l t → (s ≡ t) ⊎ (LeftIn l s t ⊎ LeftIn l t s)
one_left [] s t h k = absurd (in_none s h)
one_left (x ∷ xs) s t h k = elim (in_cons x s xs h) [
  | inl is ↦ elim (in_cons x t xs k) [
    | inl is_t ↦ inl (sym is ∙ is_t)
    | inr later ↦ inr (inl (inl (is, later)))
  ]
  | inr before ↦ elim (in_cons x t xs k) [
    | inl is_t ↦ inr (inr (inl (is_t, before)))
    | inr later ↦ elim (one_left xs s t before later) [
      | inl same ↦ inl same
      | inr (inl a) ↦ inr (inl (inr a))
      | inr (inr a) ↦ inr (inr (inr a))
    ]
  ]
]

-- in a list without repeats not both stand before one another
pub left_once : (l : List ℕ) (s t : ℕ) → IsDistinct l → LeftIn l s t → LeftIn l t s → ⊥
left_once [] s t once h k = h
left_once (x ∷ xs) s t once (inl h) (inl k) = once.0 (subst (Contains xs) (sym k.0) h.1)
left_once (x ∷ xs) s t once (inl h) (inr k) = once.0 (subst (Contains xs) (sym h.0) (left_in xs t s k).1)
left_once (x ∷ xs) s t once (inr h) (inl k) = once.0 (subst (Contains xs) (sym k.0) (left_in xs s t h).1)
left_once (x ∷ xs) s t once (inr h) (inr k) = left_once xs s t once.1 h k

module _ (items : List Item) where
  tag_at : (k : ℕ) (t u : Tag) (c : Content) → IsItem items k t c → at u ≡ at t → HasTag items k u
  tag_at k t u c i e = subst (HasTag items k) (sym (point_tag u t e)) (c, i)

  tag_of : (k k' : ℕ) (t u : Tag) (c : Content) → k ≡ k' → IsItem items k t c → HasTag items k' u → at u ≡ at t
  tag_of k k' t u c e i (d, j) = ap at (sym (same_part items k t u c d i (subst (λ z. IsItem items z u d) (sym e) j)).0)

  -- what stands in a block is an item of its tree, and the other way round
  pub stands_in : (t : Tree) (b : Body) (u : Tag) → IsBlockOf items t b → StandsIn (skeleton b) (at u) → (k : ℕ) × Contains (preorder t) k × HasTag items k u
  stands_in empty done u h s = absurd s
  stands_in empty (action t d rest) u h s = absurd h
  stands_in empty (branch t e p q rest) u h s = absurd h
  stands_in empty (loop t e p rest) u h s = absurd h
  stands_in (node c y n r) done u h s = absurd h
  stands_in (node c y n r) (action t d rest) u h (inl s) = (c, in_first c _, tag_at c t u (content_by d) h.0 s)
  stands_in (node c y n r) (action t d rest) u h (inr s) = (let (k, a, i) = stands_in r rest u h.3 s in (k, in_three c y n r k a, i))
  stands_in (node c y n r) (branch t e p q rest) u h (inl s) = (c, in_first c _, tag_at c t u (If e) h.0 s)
  stands_in (node c y n r) (branch t e p q rest) u h (inr (inl s)) = (let (k, a, i) = stands_in y p u h.1 s in (k, in_one c y n r k a, i))
  stands_in (node c y n r) (branch t e p q rest) u h (inr (inr (inl s))) = (let (k, a, i) = stands_in n q u h.2 s in (k, in_two c y n r k a, i))
  stands_in (node c y n r) (branch t e p q rest) u h (inr (inr (inr s))) = (let (k, a, i) = stands_in r rest u h.3 s in (k, in_three c y n r k a, i))
  stands_in (node c y n r) (loop t e p rest) u h (inl s) = (c, in_first c _, tag_at c t u (While e) h.0 s)
  stands_in (node c y n r) (loop t e p rest) u h (inr (inl s)) = (let (k, a, i) = stands_in y p u h.1 s in (k, in_one c y n r k a, i))
  stands_in (node c y n r) (loop t e p rest) u h (inr (inr s)) = (let (k, a, i) = stands_in r rest u h.3 s in (k, in_three c y n r k a, i))

  none_there : (t : Tree) → IsBlockOf items t done → (k : ℕ) → Contains (preorder t) k → ⊥
  none_there t h k a = in_none k (subst (λ z. Contains z k) (none_of items t h) a)

  pub in_stands : (t : Tree) (b : Body) (u : Tag) (k : ℕ) → IsBlockOf items t b → Contains (preorder t) k → HasTag items k u → StandsIn (skeleton b) (at u)
  in_stands empty b u k h a i = absurd (in_none k a)
  in_stands (node c y n r) done u k h a i = absurd h
  in_stands (node c y n r) (action t d rest) u k h a i = elim (in_which c y n r k a) [
    | inl is ↦ inl (tag_of c k t u (content_by d) is h.0 i)
    | inr (inl none) ↦ absurd (none_there y h.1 k none)
    | inr (inr (inl none)) ↦ absurd (none_there n h.2 k none)
    | inr (inr (inr later)) ↦ inr (in_stands r rest u k h.3 later i)
  ]
  in_stands (node c y n r) (branch t e p q rest) u k h a i = elim (in_which c y n r k a) [
    | inl is ↦ inl (tag_of c k t u (If e) is h.0 i)
    | inr (inl one) ↦ inr (inl (in_stands y p u k h.1 one i))
    | inr (inr (inl two)) ↦ inr (inr (inl (in_stands n q u k h.2 two i)))
    | inr (inr (inr later)) ↦ inr (inr (inr (in_stands r rest u k h.3 later i)))
  ]
  in_stands (node c y n r) (loop t e p rest) u k h a i = elim (in_which c y n r k a) [
    | inl is ↦ inl (tag_of c k t u (While e) is h.0 i)
    | inr (inl one) ↦ inr (inl (in_stands y p u k h.1 one i))
    | inr (inr (inl none)) ↦ absurd (none_there n h.2 k none)
    | inr (inr (inr later)) ↦ inr (inr (in_stands r rest u k h.3 later i))
  ]

  -- where s stands to the left of t, an item of s stands before one of t
  abbrev TagsLeft : List ℕ → Tag → Tag → Type 0
  TagsLeft l s t = (k j : ℕ) × LeftIn l k j × HasTag items k s × HasTag items j t

  left_head : (c : ℕ) (y n r : Tree) (s t u : Tag) (d : Content) → IsItem items c u d → at s ≡ at u
      → (j : ℕ) × Contains (preorder y ++ (preorder n ++ preorder r)) j × HasTag items j t → TagsLeft (preorder (node c y n r)) s t
  left_head c y n r s t u d i e (j, a, k) = (c, j, inl (refl, a), tag_at c u s d i e, k)

  left_one : (c : ℕ) (y n r : Tree) (s t : Tag) → TagsLeft (preorder y) s t → TagsLeft (preorder (node c y n r)) s t
  left_one c y n r s t (k, j, l, a, b) = (k, j, inr (left_first (preorder y) (preorder n ++ preorder r) k j l), a, b)

  left_two : (c : ℕ) (y n r : Tree) (s t : Tag) → TagsLeft (preorder n) s t → TagsLeft (preorder (node c y n r)) s t
  left_two c y n r s t (k, j, l, a, b) = (k, j, inr (left_second (preorder y) (preorder n ++ preorder r) k j (left_first (preorder n) (preorder r) k j l)), a, b)

  left_three : (c : ℕ) (y n r : Tree) (s t : Tag) → TagsLeft (preorder r) s t → TagsLeft (preorder (node c y n r)) s t
  left_three c y n r s t (k, j, l, a, b) = (k, j, inr (left_second (preorder y) (preorder n ++ preorder r) k j (left_second (preorder n) (preorder r) k j l)), a, b)

  left_one_two : (c : ℕ) (y n r : Tree) (s t : Tag) → ((k : ℕ) × Contains (preorder y) k × HasTag items k s)
      → ((j : ℕ) × Contains (preorder n ++ preorder r) j × HasTag items j t) → TagsLeft (preorder (node c y n r)) s t
  left_one_two c y n r s t (k, a, i) (j, b, i') = (k, j, inr (left_across (preorder y) (preorder n ++ preorder r) k j a b), i, i')

  left_two_three : (c : ℕ) (y n r : Tree) (s t : Tag) → ((k : ℕ) × Contains (preorder n) k × HasTag items k s)
      → ((j : ℕ) × Contains (preorder r) j × HasTag items j t) → TagsLeft (preorder (node c y n r)) s t
  left_two_three c y n r s t (k, a, i) (j, b, i') =
      (k, j, inr (left_second (preorder y) (preorder n ++ preorder r) k j (left_across (preorder n) (preorder r) k j a b)), i, i')

  in_front : (xs ys : List ℕ) (t : Tag) → ((j : ℕ) × Contains xs j × HasTag items j t) → (j : ℕ) × Contains (xs ++ ys) j × HasTag items j t
  in_front xs ys t (j, a, i) = (j, Contains-append_left xs ys j a, i)

  in_back : (xs ys : List ℕ) (t : Tag) → ((j : ℕ) × Contains ys j × HasTag items j t) → (j : ℕ) × Contains (xs ++ ys) j × HasTag items j t
  in_back xs ys t (j, a, i) = (j, Contains-append_right xs ys j a, i)

  pub stands_left : (f : Tree) (b : Body) (s t : Tag) → IsBlockOf items f b → StandsLeft (skeleton b) (at s) (at t) → TagsLeft (preorder f) s t
  stands_left empty done s t h l = absurd l
  stands_left empty (action u d rest) s t h l = absurd h
  stands_left empty (branch u e p q rest) s t h l = absurd h
  stands_left empty (loop u e p rest) s t h l = absurd h
  stands_left (node c y n r) done s t h l = absurd h
  stands_left (node c y n r) (action u d rest) s t h (inl l) =
      left_head c y n r s t u (content_by d) h.0 l.0 (in_back (preorder y) _ t (in_back (preorder n) (preorder r) t (stands_in r rest t h.3 l.1)))
  stands_left (node c y n r) (action u d rest) s t h (inr l) = left_three c y n r s t (stands_left r rest s t h.3 l)
  stands_left (node c y n r) (branch u e p q rest) s t h (inl (a, inl l)) =
      left_head c y n r s t u (If e) h.0 a (in_front (preorder y) _ t (stands_in y p t h.1 l))
  stands_left (node c y n r) (branch u e p q rest) s t h (inl (a, inr (inl l))) =
      left_head c y n r s t u (If e) h.0 a (in_back (preorder y) _ t (in_front (preorder n) _ t (stands_in n q t h.2 l)))
  stands_left (node c y n r) (branch u e p q rest) s t h (inl (a, inr (inr l))) =
      left_head c y n r s t u (If e) h.0 a (in_back (preorder y) _ t (in_back (preorder n) _ t (stands_in r rest t h.3 l)))
  stands_left (node c y n r) (branch u e p q rest) s t h (inr (inl (a, inl l))) =
      left_one_two c y n r s t (stands_in y p s h.1 a) (in_front (preorder n) _ t (stands_in n q t h.2 l))
  stands_left (node c y n r) (branch u e p q rest) s t h (inr (inl (a, inr l))) =
      left_one_two c y n r s t (stands_in y p s h.1 a) (in_back (preorder n) _ t (stands_in r rest t h.3 l))
  stands_left (node c y n r) (branch u e p q rest) s t h (inr (inr (inl (a, l)))) = left_two_three c y n r s t (stands_in n q s h.2 a) (stands_in r rest t h.3 l)
  stands_left (node c y n r) (branch u e p q rest) s t h (inr (inr (inr (inl l)))) = left_one c y n r s t (stands_left y p s t h.1 l)
  stands_left (node c y n r) (branch u e p q rest) s t h (inr (inr (inr (inr (inl l))))) = left_two c y n r s t (stands_left n q s t h.2 l)
  stands_left (node c y n r) (branch u e p q rest) s t h (inr (inr (inr (inr (inr l))))) = left_three c y n r s t (stands_left r rest s t h.3 l)
  stands_left (node c y n r) (loop u e p rest) s t h (inl (a, inl l)) =
      left_head c y n r s t u (While e) h.0 a (in_front (preorder y) _ t (stands_in y p t h.1 l))
  stands_left (node c y n r) (loop u e p rest) s t h (inl (a, inr l)) =
      left_head c y n r s t u (While e) h.0 a (in_back (preorder y) _ t (in_back (preorder n) _ t (stands_in r rest t h.3 l)))
  stands_left (node c y n r) (loop u e p rest) s t h (inr (inl (a, l))) =
      left_one_two c y n r s t (stands_in y p s h.1 a) (in_back (preorder n) _ t (stands_in r rest t h.3 l))
  stands_left (node c y n r) (loop u e p rest) s t h (inr (inr (inl l))) = left_one c y n r s t (stands_left y p s t h.1 l)
  stands_left (node c y n r) (loop u e p rest) s t h (inr (inr (inr l))) = left_three c y n r s t (stands_left r rest s t h.3 l)

  -- and the other way round
  left_which : (c : ℕ) (y n r : Tree) (k j : ℕ) → LeftIn (preorder (node c y n r)) k j
      → ((c ≡ k) × (Contains (preorder y) j ⊎ (Contains (preorder n) j ⊎ Contains (preorder r) j)))
      ⊎ (LeftIn (preorder y) k j ⊎ ((Contains (preorder y) k × (Contains (preorder n) j ⊎ Contains (preorder r) j))
      ⊎ (LeftIn (preorder n) k j ⊎ ((Contains (preorder n) k × Contains (preorder r) j) ⊎ LeftIn (preorder r) k j))))
  left_which c y n r k j (inl (is, a)) = elim (Contains-append_cases (preorder y) (preorder n ++ preorder r) j a) [
    | inl one ↦ inl (is, inl one)
    | inr b ↦ inl (is, inr (Contains-append_cases (preorder n) (preorder r) j b))
  ]
  left_which c y n r k j (inr l) = elim (left_cases (preorder y) (preorder n ++ preorder r) k j l) [
    | inl one ↦ inr (inl one)
    | inr (inl (a, b)) ↦ inr (inr (inl (a, Contains-append_cases (preorder n) (preorder r) j b)))
    | inr (inr rest) ↦ elim (left_cases (preorder n) (preorder r) k j rest) [
      | inl two ↦ inr (inr (inr (inl two)))
      | inr (inl across) ↦ inr (inr (inr (inr (inl across))))
      | inr (inr three) ↦ inr (inr (inr (inr (inr three))))
    ]
  ]

  pub left_stands : (f : Tree) (b : Body) (s t : Tag) (k j : ℕ) → IsBlockOf items f b → LeftIn (preorder f) k j → HasTag items k s → HasTag items j t
      → StandsLeft (skeleton b) (at s) (at t)
  left_stands empty b s t k j h l i i' = absurd l
  left_stands (node c y n r) done s t k j h l i i' = absurd h
  left_stands (node c y n r) (action u d rest) s t k j h l i i' = elim (left_which c y n r k j l) [
    | inl (is, inl none) ↦ absurd (none_there y h.1 j none)
    | inl (is, inr (inl none)) ↦ absurd (none_there n h.2 j none)
    | inl (is, inr (inr three)) ↦ inl (tag_of c k u s (content_by d) is h.0 i, in_stands r rest t j h.3 three i')
    | inr (inl none) ↦ absurd (none_there y h.1 k (left_in (preorder y) k j none).0)
    | inr (inr (inl (none, _))) ↦ absurd (none_there y h.1 k none)
    | inr (inr (inr (inl none))) ↦ absurd (none_there n h.2 k (left_in (preorder n) k j none).0)
    | inr (inr (inr (inr (inl (none, _))))) ↦ absurd (none_there n h.2 k none)
    | inr (inr (inr (inr (inr three)))) ↦ inr (left_stands r rest s t k j h.3 three i i')
  ]
  left_stands (node c y n r) (branch u e p q rest) s t k j h l i i' = elim (left_which c y n r k j l) [
    | inl (is, inl one) ↦ inl (tag_of c k u s (If e) is h.0 i, inl (in_stands y p t j h.1 one i'))
    | inl (is, inr (inl two)) ↦ inl (tag_of c k u s (If e) is h.0 i, inr (inl (in_stands n q t j h.2 two i')))
    | inl (is, inr (inr three)) ↦ inl (tag_of c k u s (If e) is h.0 i, inr (inr (in_stands r rest t j h.3 three i')))
    | inr (inl one) ↦ inr (inr (inr (inl (left_stands y p s t k j h.1 one i i'))))
    | inr (inr (inl (one, inl two))) ↦ inr (inl (in_stands y p s k h.1 one i, inl (in_stands n q t j h.2 two i')))
    | inr (inr (inl (one, inr three))) ↦ inr (inl (in_stands y p s k h.1 one i, inr (in_stands r rest t j h.3 three i')))
    | inr (inr (inr (inl two))) ↦ inr (inr (inr (inr (inl (left_stands n q s t k j h.2 two i i')))))
    | inr (inr (inr (inr (inl (two, three))))) ↦ inr (inr (inl (in_stands n q s k h.2 two i, in_stands r rest t j h.3 three i')))
    | inr (inr (inr (inr (inr three)))) ↦ inr (inr (inr (inr (inr (left_stands r rest s t k j h.3 three i i')))))
  ]
  left_stands (node c y n r) (loop u e p rest) s t k j h l i i' = elim (left_which c y n r k j l) [
    | inl (is, inl one) ↦ inl (tag_of c k u s (While e) is h.0 i, inl (in_stands y p t j h.1 one i'))
    | inl (is, inr (inl none)) ↦ absurd (none_there n h.2 j none)
    | inl (is, inr (inr three)) ↦ inl (tag_of c k u s (While e) is h.0 i, inr (in_stands r rest t j h.3 three i'))
    | inr (inl one) ↦ inr (inr (inl (left_stands y p s t k j h.1 one i i')))
    | inr (inr (inl (one, inl none))) ↦ absurd (none_there n h.2 j none)
    | inr (inr (inl (one, inr three))) ↦ inr (inl (in_stands y p s k h.1 one i, in_stands r rest t j h.3 three i'))
    | inr (inr (inr (inl none))) ↦ absurd (none_there n h.2 k (left_in (preorder n) k j none).0)
    | inr (inr (inr (inr (inl (none, _))))) ↦ absurd (none_there n h.2 k none)
    | inr (inr (inr (inr (inr three)))) ↦ inr (inr (inr (left_stands r rest s t k j h.3 three i i')))
  ]
