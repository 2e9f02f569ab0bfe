-- What the block of a tree of items is: its parts, tags and levels, and that it has no refusal.
use Rattle.std.proofs.Common.{◌≡◌, ℕ, zero, suc, ◌+◌, ◌-◌, ◌≤◌, inl, inr, Bool, true, false, ◌||◌, if◌then◌else◌, IsSome, Option, Some, None, List, [], ◌∷◌, ◌++◌, All, length, map, Contains, slice_get, refl, sym, ap, ap₂, ◌∙◌, subst, arith, append_assoc, length-append}
use Rattle.std.specs.List.{list_any}
use Rattle.std.specs.Option.{option_or}
use Rattle.std.proofs.lemmas.Bool.Decides.{nat_tests}
use Rattle.std.proofs.lemmas.List.Elements.{All-contains}
use Rattle.hpr_terms.specs.declared.limits.TheConstants.{MAX_LEVELS}
use Rattle.hpr_terms.specs.declared.tag.Tag.{Tag}
use Rattle.hpr_terms.proofs.Facts.{unless, contains_at}
use Rattle.hpr_syntax.specs.declared.rows.Row.{Row}
use Rattle.hpr_syntax.specs.declared.rows.Content.{Content}
use Rattle.hpr_syntax.specs.declared.rows.Content.TheVariants.{If, While}
use Rattle.hpr_syntax.specs.Rows.{content_by, Parent, rows_of}
use Rattle.hpr_syntax.specs.Body.{Body, done, action, branch, loop, part_count}
use Rattle.hpr_syntax.specs.Issued.{Issued, issued_to}
use Rattle.hpr_syntax.specs.Parts.{tags_of}
use Rattle.hpr_syntax.specs.Proper.{IsProperBody, IsProperTag, IsProperContent}
use Rattle.hpr_syntax.specs.Shape.{first_repeated, first_unissued, is_unissued, first_deep, first_where}
use Rattle.hpr_syntax.proofs.NoRefusal.{or_none, none_in_action, none_in_branch, none_in_loop}
use Rattle.hpr_syntax.proofs.ProperLemmas.{proper_action}
use Rattle.hpr_graph.specs.declared.vertex.Vertex.{Vertex}
use Rattle.hpr_graph.specs.declared.vertex.Vertex.TheVariants.{Entry, Part}
use Rattle.hpr_forest.proofs.Unique.{in_none, in_cons, in_first, in_later}
use Rattle.hpr_forest.specs.Trees.{Tree, empty, node, preorder, Slot, StandsIn}
use Rattle.hpr_order.specs.declared.item.Item.{Item}
use Rattle.hpr_order.specs.Items.{IsItem}
use Rattle.hpr_order.specs.Limits.{level_in, one_more}
use Rattle.hpr_order.specs.Arranging.{IsProperItem}
use Rattle.hpr_order.proofs.ListFacts.{map_append}
use Rattle.hpr_order.proofs.BlockOf.{IsBlockOf, in_one, in_two, in_three, in_which, none_of, same_part}

map_three : {X Y : Type 0} (f : X → Y) (xs ys zs : List X) → map f (xs ++ (ys ++ zs)) ≡ map f xs ++ (map f ys ++ map f zs)
map_three f xs ys zs = map_append f xs (ys ++ zs) ∙ ap (λ z. map f xs ++ z) (map_append f ys zs)

abbrev pub vertex_in : Option Item → Vertex
vertex_in None = Entry
vertex_in (Some i) = Part i.tag i.content

abbrev pub vertex_of : List Item → ℕ → Vertex
vertex_of items k = vertex_in (slice_get items k)

abbrev pub no_tag : Tag
no_tag = record { author = 0; serial = 0 }

abbrev pub tag_in : Option Item → Tag
tag_in None = no_tag
tag_in (Some i) = i.tag

abbrev pub tag_of : List Item → ℕ → Tag
tag_of items k = tag_in (slice_get items k)

pub vertex_is : (items : List Item) (k : ℕ) (t : Tag) (c : Content) → IsItem items k t c → vertex_of items k ≡ Part t c
vertex_is items k t c (i, a, it, ic) = ap vertex_in a ∙ ap₂ Part it ic

pub tag_is : (items : List Item) (k : ℕ) (t : Tag) (c : Content) → IsItem items k t c → tag_of items k ≡ t
tag_is items k t c (i, a, it, ic) = ap tag_in a ∙ it

module _ (items : List Item) where
  -- only the rest has items
  only_rest : {Y : Type 0} (f : ℕ → Y) (y n r : Tree) → IsBlockOf items y done → IsBlockOf items n done → map f (preorder r) ≡ map f (preorder y ++ (preorder n ++ preorder r))
  only_rest f y n r a b = ap (λ z. map f (z ++ preorder r)) (sym (none_of items n b)) ∙ ap (λ z. map f (z ++ (preorder n ++ preorder r))) (sym (none_of items y a))

  only_one : {Y : Type 0} (f : ℕ → Y) (y n r : Tree) → IsBlockOf items n done → map f (preorder y) ++ map f (preorder r) ≡ map f (preorder y ++ (preorder n ++ preorder r))
  only_one f y n r b = sym (map_append f (preorder y) (preorder r)) ∙ ap (λ z. map f (preorder y ++ (z ++ preorder r))) (sym (none_of items n b))

  -- the parts of a block are the items of its tree, in preorder
  pub parts_in : (t : Tree) (b : Body) (up : Parent) (i : ℕ) → IsBlockOf items t b
      → map (λ (row : Row). Part row.tag row.content) (rows_of up i b) ≡ map (vertex_of items) (preorder t)
  parts_in empty done up i h = refl
  parts_in empty (action t d rest) up i h = absurd h
  parts_in empty (branch t e p q rest) up i h = absurd h
  parts_in empty (loop t e p rest) up i h = absurd h
  parts_in (node c y n r) done up i h = absurd h
  parts_in (node c y n r) (action t d rest) up i h =
      ap₂ (λ (v : Vertex) (vs : List Vertex). v ∷ vs) (sym (vertex_is items c t (content_by d) h.0)) (parts_in r rest up (i + 1) h.3 ∙ only_rest (vertex_of items) y n r h.1 h.2)
  parts_in (node c y n r) (branch t e p q rest) up i h =
      let f : Row → Vertex = λ row. Part row.tag row.content in
      let ps = rows_of (Some (t, true)) 0 p in
      let qs = rows_of (Some (t, false)) 0 q in
      let rs = rows_of up (i + 1) rest in
      let g = vertex_of items in
      ap₂ (λ (v : Vertex) (vs : List Vertex). v ∷ vs) (sym (vertex_is items c t (If e) h.0))
      (ap (map f) (append_assoc ps qs rs)
      ∙ map_three f ps qs rs
      ∙ ap (λ z. z ++ (map f qs ++ map f rs)) (parts_in y p (Some (t, true)) 0 h.1)
      ∙ ap (λ z. map g (preorder y) ++ (z ++ map f rs)) (parts_in n q (Some (t, false)) 0 h.2)
      ∙ ap (λ z. map g (preorder y) ++ (map g (preorder n) ++ z)) (parts_in r rest up (i + 1) h.3)
      ∙ sym (map_three g (preorder y) (preorder n) (preorder r)))
  parts_in (node c y n r) (loop t e p rest) up i h =
      let f : Row → Vertex = λ row. Part row.tag row.content in
      let ps = rows_of (Some (t, true)) 0 p in
      let rs = rows_of up (i + 1) rest in
      let g = vertex_of items in
      ap₂ (λ (v : Vertex) (vs : List Vertex). v ∷ vs) (sym (vertex_is items c t (While e) h.0))
      (map_append f ps rs
      ∙ ap (λ z. z ++ map f rs) (parts_in y p (Some (t, true)) 0 h.1)
      ∙ ap (λ z. map g (preorder y) ++ z) (parts_in r rest up (i + 1) h.3)
      ∙ only_one g y n r h.2)

  pub count_in : (t : Tree) (b : Body) → IsBlockOf items t b → part_count b ≡ length (preorder t)
  count_in empty done h = refl
  count_in empty (action t d rest) h = absurd h
  count_in empty (branch t e p q rest) h = absurd h
  count_in empty (loop t e p rest) h = absurd h
  count_in (node c y n r) done h = absurd h
  count_in (node c y n r) (action t d rest) h =
      omega (arith, count_in r rest h.3, ap length (none_of items y h.1), ap length (none_of items n h.2), length-append (preorder y) (preorder n ++ preorder r), length-append (preorder n) (preorder r))
  count_in (node c y n r) (branch t e p q rest) h =
      omega (arith, count_in y p h.1, count_in n q h.2, count_in r rest h.3, length-append (preorder y) (preorder n ++ preorder r), length-append (preorder n) (preorder r))
  count_in (node c y n r) (loop t e p rest) h =
      omega (arith, count_in y p h.1, count_in r rest h.3, ap length (none_of items n h.2), length-append (preorder y) (preorder n ++ preorder r), length-append (preorder n) (preorder r))

  pub tags_in : (t : Tree) (b : Body) (after : List Tag) → IsBlockOf items t b → tags_of b after ≡ map (tag_of items) (preorder t) ++ after
  tags_in empty done after h = refl
  tags_in empty (action t d rest) after h = absurd h
  tags_in empty (branch t e p q rest) after h = absurd h
  tags_in empty (loop t e p rest) after h = absurd h
  tags_in (node c y n r) done after h = absurd h
  tags_in (node c y n r) (action t d rest) after h =
      ap₂ (λ (u : Tag) (us : List Tag). u ∷ us) (sym (tag_is items c t (content_by d) h.0))
      (tags_in r rest after h.3 ∙ ap (λ z. z ++ after) (only_rest (tag_of items) y n r h.1 h.2))
  tags_in (node c y n r) (branch t e p q rest) after h =
      let g = tag_of items in
      let ys = map g (preorder y) in
      let ns = map g (preorder n) in
      let rs = map g (preorder r) in
      ap₂ (λ (u : Tag) (us : List Tag). u ∷ us) (sym (tag_is items c t (If e) h.0))
      (tags_in y p (tags_of q (tags_of rest after)) h.1
      ∙ ap (λ z. ys ++ z) (tags_in n q (tags_of rest after) h.2 ∙ ap (λ z. ns ++ z) (tags_in r rest after h.3) ∙ sym (append_assoc ns rs after))
      ∙ sym (append_assoc ys (ns ++ rs) after)
      ∙ ap (λ z. z ++ after) (sym (map_three g (preorder y) (preorder n) (preorder r))))
  tags_in (node c y n r) (loop t e p rest) after h =
      let g = tag_of items in
      let ys = map g (preorder y) in
      let rs = map g (preorder r) in
      ap₂ (λ (u : Tag) (us : List Tag). u ∷ us) (sym (tag_is items c t (While e) h.0))
      (tags_in y p (tags_of rest after) h.1
      ∙ ap (λ z. ys ++ z) (tags_in r rest after h.3)
      ∙ sym (append_assoc ys rs after)
      ∙ ap (λ z. z ++ after) (only_one g y n r h.2))

  proper_item : (k : ℕ) (t : Tag) (c : Content) → All IsProperItem items → IsItem items k t c → IsProperTag t × IsProperContent c
  proper_item k t c all (i, a, it, ic) =
      let p : IsProperItem i = All-contains IsProperItem items i all (contains_at items k i a) in
      (subst IsProperTag it p.0, subst IsProperContent ic p.1)

  pub proper_in : (t : Tree) (b : Body) → All IsProperItem items → IsBlockOf items t b → IsProperBody b
  proper_in empty done all h = tt
  proper_in empty (action t d rest) all h = absurd h
  proper_in empty (branch t e p q rest) all h = absurd h
  proper_in empty (loop t e p rest) all h = absurd h
  proper_in (node c y n r) done all h = absurd h
  proper_in (node c y n r) (action t action_ rest) all h =
      (let i = proper_item c t (content_by action_) all h.0 in proper_action t action_ rest i.0 i.1 (proper_in r rest all h.3))
  proper_in (node c y n r) (branch t e p q rest) all h =
      (let i = proper_item c t (If e) all h.0 in (i.0, i.1, proper_in y p all h.1, proper_in n q all h.2, proper_in r rest all h.3))
  proper_in (node c y n r) (loop t e p rest) all h =
      (let i = proper_item c t (While e) all h.0 in (i.0, i.1, proper_in y p all h.1, proper_in r rest all h.3))

  none_or : {X : Type 0} (a b : Option X) → a ≡ None → b ≡ None → option_or a b ≡ None
  none_or None b x y = y
  none_or (Some z) b x y = absurd cc

  none_there : (t : Tree) → IsBlockOf items t done → (k : ℕ) → Contains (preorder t) k → ⊥
  none_there t h k a = in_none k (subst (λ z. Contains z k) (none_of items t h) a)

  -- a test is true of no part exactly where it is true of no item
  module _ (test : Content → Bool) where
    pub none_in : (t : Tree) (b : Body) → ((k : ℕ) (u : Tag) (c : Content) → IsItem items k u c → test c ≡ false) → IsBlockOf items t b → first_where test b ≡ None
    none_in empty done all h = refl
    none_in empty (action t d rest) all h = absurd h
    none_in empty (branch t e p q rest) all h = absurd h
    none_in empty (loop t e p rest) all h = absurd h
    none_in (node c y n r) done all h = absurd h
    none_in (node c y n r) (action t d rest) all h = unless (test (content_by d)) t (first_where test rest) (all c t (content_by d) h.0) (none_in r rest all h.3)
    none_in (node c y n r) (branch t e p q rest) all h =
        unless (test (If e)) t _ (all c t (If e) h.0) (none_or _ _ (none_in y p all h.1) (none_or _ _ (none_in n q all h.2) (none_in r rest all h.3)))
    none_in (node c y n r) (loop t e p rest) all h =
        unless (test (While e)) t _ (all c t (While e) h.0) (none_or _ _ (none_in y p all h.1) (none_in r rest all h.3))

    false_at : (c k : ℕ) (t u : Tag) (d d' : Content) → c ≡ k → IsItem items c t d → IsItem items k u d' → test d ≡ false → test d' ≡ false
    false_at c k t u d d' is i j fails = subst (λ z. test z ≡ false) (same_part items k t u d d' (subst (λ z. IsItem items z t d) is i) j).1 fails

    pub in_none_of : (t : Tree) (b : Body) (k : ℕ) (u : Tag) (d : Content) → first_where test b ≡ None → IsBlockOf items t b → Contains (preorder t) k → IsItem items k u d
        → test d ≡ false
    in_none_of empty b k u d none h a i = absurd (in_none k a)
    in_none_of (node c y n r) done k u d none h a i = absurd h
    in_none_of (node c y n r) (action t e rest) k u d none h a i =
        let (now, later) = none_in_action test t e rest none in
        elim (in_which c y n r k a) [
          | inl is ↦ false_at c k t u (content_by e) d is h.0 i now
          | inr (inl one) ↦ absurd (none_there y h.1 k one)
          | inr (inr (inl two)) ↦ absurd (none_there n h.2 k two)
          | inr (inr (inr three)) ↦ in_none_of r rest k u d later h.3 three i
        ]
    in_none_of (node c y n r) (branch t e p q rest) k u d none h a i =
        let (now, p_none, q_none, rest_none) = none_in_branch test t e p q rest none in
        elim (in_which c y n r k a) [
          | inl is ↦ false_at c k t u (If e) d is h.0 i now
          | inr (inl one) ↦ in_none_of y p k u d p_none h.1 one i
          | inr (inr (inl two)) ↦ in_none_of n q k u d q_none h.2 two i
          | inr (inr (inr three)) ↦ in_none_of r rest k u d rest_none h.3 three i
        ]
    in_none_of (node c y n r) (loop t e p rest) k u d none h a i =
        let (now, p_none, rest_none) = none_in_loop test t e p rest none in
        elim (in_which c y n r k a) [
          | inl is ↦ false_at c k t u (While e) d is h.0 i now
          | inr (inl one) ↦ in_none_of y p k u d p_none h.1 one i
          | inr (inr (inl two)) ↦ absurd (none_there n h.2 k two)
          | inr (inr (inr three)) ↦ in_none_of r rest k u d rest_none h.3 three i
        ]

-- how deep a slot is
module _ (slot : ℕ → Slot) where
  abbrev pub IsFar : ℕ → Slot → Type 0
  IsFar d None = d ≡ 0
  IsFar zero (Some at) = ⊥
  IsFar (suc d) (Some at) = IsFar d (slot at.0)

  pub far_level : (n d : ℕ) (v : Slot) → IsFar d v → d ≤ n → level_in slot n v ≡ Some d
  far_level n d None far le = ap Some (sym far)
  far_level n zero (Some at) far le = absurd far
  far_level zero (suc d) (Some at) far le = absurd (omega arith)
  far_level (suc n) (suc d) (Some at) far le = ap one_more (far_level n d (slot at.0) far (omega arith)) ∙ ap Some (omega arith)

  pub level_far : (n d : ℕ) (v : Slot) → level_in slot n v ≡ Some d → IsFar d v × (d ≤ n)
  level_far n d None is = (let e : 0 ≡ d = cc in sym e, let e : 0 ≡ d = cc in omega arith)
  level_far zero d (Some at) is = absurd cc
  level_far (suc n) d (Some at) is = go (level_in slot n (slot at.0)) refl d is (λ m. level_far n m (slot at.0))
    where
      go : (o : Option ℕ) → level_in slot n (slot at.0) ≡ o → (d : ℕ) → one_more o ≡ Some d
          → ((m : ℕ) → level_in slot n (slot at.0) ≡ Some m → IsFar m (slot at.0) × (m ≤ n)) → IsFar d (Some at) × (d ≤ suc n)
      go None was d e far = absurd cc
      go (Some m) was zero e far = absurd (let f : m + 1 ≡ 0 = cc in omega arith)
      go (Some m) was (suc d) e far =
          (let f : m + 1 ≡ suc d = cc in
          let g : m ≡ d = omega arith in
          let (deep, le) = far m was in
          (subst (λ z. IsFar z (slot at.0)) g deep, omega arith))

  far_one : (d e : ℕ) (v : Slot) → IsFar d v → IsFar e v → d ≡ e
  far_one d e None a b = a ∙ sym b
  far_one zero e (Some at) a b = absurd a
  far_one (suc d) zero (Some at) a b = absurd b
  far_one (suc d) (suc e) (Some at) a b = ap suc (far_one d e (slot at.0) a b)

  some_level : (n : ℕ) (v : Slot) → IsSome (level_in slot n v) → (d : ℕ) × (level_in slot n v ≡ Some d)
  some_level n v h = go (level_in slot n v) h
    where
      go : (o : Option ℕ) → IsSome o → (d : ℕ) × (o ≡ Some d)
      go None h = absurd cc
      go (Some d) h = (d, refl)

  level_some : (n d : ℕ) (v : Slot) → level_in slot n v ≡ Some d → IsSome (level_in slot n v)
  level_some n d v e = go (level_in slot n v) e
    where
      go : (o : Option ℕ) → o ≡ Some d → IsSome o
      go None e = absurd cc
      go (Some m) e = search

  pub in_reach : (n d : ℕ) (v : Slot) → IsFar d v → IsSome (level_in slot n v) → d ≤ n
  in_reach n d v far h =
      let (e, is) = some_level n v h in
      let (far', le) = level_far n e v is in
      let same : d ≡ e = far_one d e v far far' in
      omega arith

  pub reached : (n d : ℕ) (v : Slot) → IsFar d v → d ≤ n → IsSome (level_in slot n v)
  reached n d v far le = level_some n d v (far_level n d v far le)

  far_more : (c d : ℕ) (b : Bool) (v : Slot) → slot c ≡ v → IsFar d v → IsFar (suc d) (Some (c, b))
  far_more c d b v is far = subst (IsFar d) (sym is) far

  none_or' : {X : Type 0} (a b : Option X) → a ≡ None → b ≡ None → option_or a b ≡ None
  none_or' None b x y = y
  none_or' (Some z) b x y = absurd cc

  -- a block in a slot that is d parts deep has no part below MAX_LEVELS levels exactly where no item stands in MAX_LEVELS others or more
  pub shallow_in : (items : List Item) (n d : ℕ) (t : Tree) (b : Body) (v : Slot) → n + d ≡ MAX_LEVELS → IsFar d v → StandsIn slot v t → IsBlockOf items t b
      → ((k : ℕ) → Contains (preorder t) k → IsSome (level_in slot (MAX_LEVELS - 1) (slot k))) → first_deep n b ≡ None
  shallow_in items n d empty done v sum far st h all = refl
  shallow_in items n d empty (action t action_ rest) v sum far st h all = absurd h
  shallow_in items n d empty (branch t e p q rest) v sum far st h all = absurd h
  shallow_in items n d empty (loop t e p rest) v sum far st h all = absurd h
  shallow_in items n d (node c y m r) done v sum far st h all = absurd h
  shallow_in items zero d (node c y m r) (action t action_ rest) v sum far st h all =
      absurd (let le : d ≤ MAX_LEVELS - 1 = in_reach (MAX_LEVELS - 1) d v far (subst (λ z. IsSome (level_in slot (MAX_LEVELS - 1) z)) st.0 (all c (in_first c (preorder y ++ (preorder m ++ preorder r))))) in omega arith)
  shallow_in items zero d (node c y m r) (branch t e p q rest) v sum far st h all =
      absurd (let le : d ≤ MAX_LEVELS - 1 = in_reach (MAX_LEVELS - 1) d v far (subst (λ z. IsSome (level_in slot (MAX_LEVELS - 1) z)) st.0 (all c (in_first c (preorder y ++ (preorder m ++ preorder r))))) in omega arith)
  shallow_in items zero d (node c y m r) (loop t e p rest) v sum far st h all =
      absurd (let le : d ≤ MAX_LEVELS - 1 = in_reach (MAX_LEVELS - 1) d v far (subst (λ z. IsSome (level_in slot (MAX_LEVELS - 1) z)) st.0 (all c (in_first c (preorder y ++ (preorder m ++ preorder r))))) in omega arith)
  shallow_in items (suc n) d (node c y m r) (action t action_ rest) v sum far st h all =
      shallow_in items (suc n) d r rest v sum far st.3 h.3 (λ k a. all k (in_three c y m r k a))
  shallow_in items (suc n) d (node c y m r) (branch t e p q rest) v sum far st h all =
      none_or' (first_deep n p) (option_or (first_deep n q) (first_deep (suc n) rest))
      (shallow_in items n (suc d) y p (Some (c, true)) (omega arith) (far_more c d true v st.0 far) st.1 h.1 (λ k a. all k (in_one c y m r k a)))
      (none_or' (first_deep n q) (first_deep (suc n) rest)
      (shallow_in items n (suc d) m q (Some (c, false)) (omega arith) (far_more c d false v st.0 far) st.2 h.2 (λ k a. all k (in_two c y m r k a)))
      (shallow_in items (suc n) d r rest v sum far st.3 h.3 (λ k a. all k (in_three c y m r k a))))
  shallow_in items (suc n) d (node c y m r) (loop t e p rest) v sum far st h all =
      none_or' (first_deep n p) (first_deep (suc n) rest)
      (shallow_in items n (suc d) y p (Some (c, true)) (omega arith) (far_more c d true v st.0 far) st.1 h.1 (λ k a. all k (in_one c y m r k a)))
      (shallow_in items (suc n) d r rest v sum far st.3 h.3 (λ k a. all k (in_three c y m r k a)))

  head_reached : (n d c k : ℕ) (v : Slot) → suc n + d ≡ MAX_LEVELS → IsFar d v → slot c ≡ v → c ≡ k → IsSome (level_in slot (MAX_LEVELS - 1) (slot k))
  head_reached n d c k v sum far st is = subst (λ z. IsSome (level_in slot (MAX_LEVELS - 1) (slot z))) is (subst (λ z. IsSome (level_in slot (MAX_LEVELS - 1) z)) (sym st) (reached (MAX_LEVELS - 1) d v far (omega arith)))

  pub in_shallow : (items : List Item) (n d : ℕ) (t : Tree) (b : Body) (v : Slot) (k : ℕ) → n + d ≡ MAX_LEVELS → IsFar d v → StandsIn slot v t → IsBlockOf items t b
      → first_deep n b ≡ None → Contains (preorder t) k → IsSome (level_in slot (MAX_LEVELS - 1) (slot k))
  in_shallow items n d empty b v k sum far st h none a = absurd (in_none k a)
  in_shallow items n d (node c y m r) done v k sum far st h none a = absurd h
  in_shallow items zero d (node c y m r) (action t action_ rest) v k sum far st h none a = absurd cc
  in_shallow items zero d (node c y m r) (branch t e p q rest) v k sum far st h none a = absurd cc
  in_shallow items zero d (node c y m r) (loop t e p rest) v k sum far st h none a = absurd cc
  in_shallow items (suc n) d (node c y m r) (action t action_ rest) v k sum far st h none a = elim (in_which c y m r k a) [
    | inl is ↦ head_reached n d c k v sum far st.0 is
    | inr (inl one) ↦ absurd (none_there items y h.1 k one)
    | inr (inr (inl two)) ↦ absurd (none_there items m h.2 k two)
    | inr (inr (inr three)) ↦ in_shallow items (suc n) d r rest v k sum far st.3 h.3 none three
  ]
  in_shallow items (suc n) d (node c y m r) (branch t e p q rest) v k sum far st h none a =
      let (p_none, more) = or_none (first_deep n p) (option_or (first_deep n q) (first_deep (suc n) rest)) none in
      let (q_none, rest_none) = or_none (first_deep n q) (first_deep (suc n) rest) more in
      elim (in_which c y m r k a) [
        | inl is ↦ head_reached n d c k v sum far st.0 is
        | inr (inl one) ↦ in_shallow items n (suc d) y p (Some (c, true)) k (omega arith) (far_more c d true v st.0 far) st.1 h.1 p_none one
        | inr (inr (inl two)) ↦ in_shallow items n (suc d) m q (Some (c, false)) k (omega arith) (far_more c d false v st.0 far) st.2 h.2 q_none two
        | inr (inr (inr three)) ↦ in_shallow items (suc n) d r rest v k sum far st.3 h.3 rest_none three
      ]
  in_shallow items (suc n) d (node c y m r) (loop t e p rest) v k sum far st h none a =
      let (p_none, rest_none) = or_none (first_deep n p) (first_deep (suc n) rest) none in
      elim (in_which c y m r k a) [
        | inl is ↦ head_reached n d c k v sum far st.0 is
        | inr (inl one) ↦ in_shallow items n (suc d) y p (Some (c, true)) k (omega arith) (far_more c d true v st.0 far) st.1 h.1 p_none one
        | inr (inr (inl two)) ↦ absurd (none_there items m h.2 k two)
        | inr (inr (inr three)) ↦ in_shallow items (suc n) d r rest v k sum far st.3 h.3 rest_none three
      ]

-- what stands once and what is issued
abbrev pub IsApart : {X : Type 0} → (X → X → Bool) → List X → Type 0
IsApart same [] = Unit {0}
IsApart {X} same (x ∷ xs) = ((y : X) → Contains xs y → same y x ≡ false) × IsApart same xs

none_any : {X : Type 0} (same : X → Bool) (xs : List X) → ((y : X) → Contains xs y → same y ≡ false) → list_any same xs ≡ false
none_any same [] h = refl
none_any same (x ∷ xs) h = go (same x) (h x (in_first x xs)) (none_any same xs (λ y a. h y (in_later x y xs a)))
  where
    go : (b : Bool) → b ≡ false → list_any same xs ≡ false → (b || list_any same xs) ≡ false
    go true is rest = absurd cc
    go false is rest = rest

pub none_repeated : {X : Type 0} (same : X → X → Bool) (earlier xs : List X) → IsApart same xs
    → ((x y : X) → Contains xs x → Contains earlier y → same x y ≡ false) → first_repeated same earlier xs ≡ None
none_repeated same earlier [] apart out = refl
none_repeated {X} same earlier (x ∷ xs) apart out =
    go (list_any (same x) earlier) (none_any (same x) earlier (λ y a. out x y (in_first x xs) a))
    (none_repeated same (x ∷ earlier) xs apart.1 (λ z y a b. elim (in_cons x y earlier b) [
      | inl is ↦ subst (λ w. same z w ≡ false) is (apart.0 z a)
      | inr old ↦ out z y (in_later x z xs a) old
    ]))
  where
    go : (b : Bool) → b ≡ false → first_repeated same (x ∷ earlier) xs ≡ None → (if b then Some x else first_repeated same (x ∷ earlier) xs) ≡ None
    go true is rest = absurd cc
    go false is rest = rest

pub all_issued : (issued : Issued) (ts : List Tag) → ((t : Tag) → Contains ts t → (1 ≤ t.serial) × (t.serial ≤ issued_to t.author issued)) → first_unissued issued ts ≡ None
all_issued issued [] h = refl
all_issued issued (t ∷ ts) h =
    go (is_unissued issued t) (is_issued t (h t (in_first t ts)).0 (h t (in_first t ts)).1) (all_issued issued ts (λ u a. h u (in_later t u ts a)))
  where
    is_issued : (t : Tag) → 1 ≤ t.serial → t.serial ≤ issued_to t.author issued → is_unissued issued t ≡ false
    is_issued t a b = grind (arith, nat_tests)

    go : (b : Bool) → b ≡ false → first_unissued issued ts ≡ None → (if b then Some t else first_unissued issued ts) ≡ None
    go true is rest = absurd cc
    go false is rest = rest
