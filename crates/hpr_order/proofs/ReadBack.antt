-- A tree of items is read back from its preorder.
use Rattle.std.proofs.Common.{◌≡◌, ℕ, ◌<◌, ◌⊎◌, inl, inr, Bool, true, false, if◌then◌else◌, Option, Some, None, List, [], ◌∷◌, ◌++◌, length, Contains, slice_get, refl, sym, ap, ap₂, ◌∙◌, subst, append_assoc}
use Rattle.std.proofs.lemmas.List.{append-nil}
use Rattle.std.proofs.lemmas.List.Elements.{Contains-append_left, Contains-append_right, Contains-append_cases}
use Rattle.hpr_terms.specs.declared.tag.Tag.{Tag}
use Rattle.hpr_terms.proofs.Facts.{get_below, some_inj}
use Rattle.hpr_syntax.specs.declared.rows.Content.{Content}
use Rattle.hpr_syntax.specs.declared.rows.Content.TheVariants.{If, While}
use Rattle.hpr_syntax.specs.declared.rows.Structure.{Structure}
use Rattle.hpr_syntax.specs.Action.{Action}
use Rattle.hpr_syntax.specs.Rows.{content_by}
use Rattle.hpr_syntax.specs.Body.{Body, done, action, branch, loop}
use Rattle.hpr_syntax.proofs.ByStructure.{SaysBy, by_action, by_test, by_loop, says_by, structure_by, before_by}
use Rattle.hpr_forest.proofs.Unique.{in_none, in_first, in_later}
use Rattle.hpr_forest.specs.Forest.{IsDistinct}
use Rattle.hpr_forest.specs.Trees.{Tree, empty, node, preorder, Slot, StandsIn, same_slot}
use Rattle.hpr_forest.proofs.Lift.{once_parts}
use Rattle.hpr_forest.proofs.Flat.{once_left, once_right}
use Rattle.hpr_forest.proofs.Grow.{same_slot_true, same_slot_itself}
use Rattle.hpr_order.specs.declared.item.Item.{Item}
use Rattle.hpr_order.specs.Items.{IsItem, slot_at, slot_in, said, with_part, block_at}
use Rattle.hpr_order.specs.Regions.{AllowsIn, HasBranch}
use Rattle.hpr_order.proofs.BlockOf.{IsBlockOf, in_one, in_two, in_three, in_which}

pub differ_false : (u v : Slot) → (u ≡ v → ⊥) → same_slot u v ≡ false
differ_false u v ne = go (same_slot u v) refl
  where
    go : (b : Bool) → same_slot u v ≡ b → same_slot u v ≡ false
    go true is = absurd (ne (same_slot_true u v is))
    go false is = is

-- the item of a slot
abbrev pub owner : Slot → Option ℕ
owner None = None
owner (Some (k, b)) = Some k

abbrev pub branch_of : Slot → Bool
branch_of None = true
branch_of (Some (k, b)) = b

pub first_second : (u : Slot) (c d : ℕ) → u ≡ Some (c, true) → u ≡ Some (d, false) → ⊥
first_second u c d e f = let g : true ≡ false = sym (ap branch_of e) ∙ ap branch_of f in absurd cc

module _ (items : List Item) where
  -- the slot's item is not among these
  abbrev Outside : List ℕ → Slot → Type 0
  Outside xs v = (w : ℕ) → owner v ≡ Some w → Contains xs w → ⊥

  -- an item of a block stands in the block's slot or in one of an item of the block
  inside : (t : Tree) (v : Slot) (z : ℕ) → StandsIn (slot_at items) v t → Contains (preorder t) z
      → (slot_at items z ≡ v) ⊎ ((w : ℕ) × (owner (slot_at items z) ≡ Some w) × Contains (preorder t) w)
  inside empty v z st a = absurd (in_none z a)
  inside (node c y n r) v z st a = elim (in_which c y n r z a) [
    | inl is ↦ inl (subst (λ k. slot_at items k ≡ v) is st.0)
    | inr (inl one) ↦ inr (elim (inside y (Some (c, true)) z st.1 one) [
      | inl is ↦ (c, ap owner is, in_first c (preorder y ++ (preorder n ++ preorder r)))
      | inr (w, is, b) ↦ (w, is, in_one c y n r w b)
    ])
    | inr (inr (inl two)) ↦ inr (elim (inside n (Some (c, false)) z st.2 two) [
      | inl is ↦ (c, ap owner is, in_first c (preorder y ++ (preorder n ++ preorder r)))
      | inr (w, is, b) ↦ (w, is, in_two c y n r w b)
    ])
    | inr (inr (inr three)) ↦ elim (inside r v z st.3 three) [
      | inl is ↦ inl is
      | inr (w, is, b) ↦ inr (w, is, in_three c y n r w b)
    ]
  ]

  -- no item of these stands in the slot
  abbrev NoneIn : Slot → List ℕ → Type 0
  NoneIn v xs = (z : ℕ) → Contains xs z → slot_at items z ≡ v → ⊥

  with_other : (o : Option Item) (c : ℕ) (f : Slot → Body) (v : Slot) → (slot_in o ≡ v → ⊥) → with_part o c f v ≡ f v
  with_other None c f v ne = refl
  with_other (Some i) c f v ne = go (same_slot i.slot v) (differ_false i.slot v ne)
    where
      go : (b : Bool) → b ≡ false → (if b then said i.tag i.content (f (Some (c, true))) (f (Some (c, false))) (f v) else f v) ≡ f v
      go true is = absurd cc
      go false is = refl

  with_its : (o : Option Item) (i : Item) (c : ℕ) (f : Slot → Body) (v : Slot) → o ≡ Some i → slot_in o ≡ v
      → with_part o c f v ≡ said i.tag i.content (f (Some (c, true))) (f (Some (c, false))) (f v)
  with_its None i c f v e is = absurd cc
  with_its (Some j) i c f v e is =
      (let same : j ≡ i = cc in
      go (same_slot j.slot v) (subst (λ z. same_slot j.slot z ≡ true) is (same_slot_itself j.slot)) ∙ ap (λ (k : Item). said k.tag k.content (f (Some (c, true))) (f (Some (c, false))) (f v)) same)
    where
      go : (b : Bool) → b ≡ true → (if b then said j.tag j.content (f (Some (c, true))) (f (Some (c, false))) (f v) else f v)
          ≡ said j.tag j.content (f (Some (c, true))) (f (Some (c, false))) (f v)
      go true is = refl
      go false is = absurd cc

  skip : (v : Slot) (xs ys : List ℕ) → NoneIn v xs → block_at items (xs ++ ys) v ≡ block_at items ys v
  skip v [] ys none = refl
  skip v (x ∷ xs) ys none =
      with_other (slice_get items x) x (block_at items (xs ++ ys)) v (none x (in_first x xs)) ∙ skip v xs ys (λ z a. none z (in_later x z xs a))

  -- these stand neither in the slot nor in one of those items
  abbrev Clear : Slot → List ℕ → List ℕ → Type 0
  Clear v xs s = (z : ℕ) → Contains s z → (slot_at items z ≡ v → ⊥) × Outside xs (slot_at items z)

  clear_append : (v : Slot) (xs s u : List ℕ) → Clear v xs s → Clear v xs u → Clear v xs (s ++ u)
  clear_append v xs s u a b z h = elim (Contains-append_cases s u z h) [ inl l ↦ a z l | inr r ↦ b z r ]

  block_said : (items' : List Item) (c : ℕ) (i : Item) (t : Tag) (d : Content) (p q o : Body) → i.tag ≡ t → i.content ≡ d → said i.tag i.content p q o ≡ said t d p q o
  block_said items' c i t d p q o it ic = ap₂ (λ (u : Tag) (e : Content). said u e p q o) it ic

  pub read_back : (t : Tree) (b : Body) (v : Slot) (s : List ℕ) → StandsIn (slot_at items) v t → IsBlockOf items t b → IsDistinct (preorder t)
      → Outside (preorder t) v → Clear v (preorder t) s → block_at items (preorder t ++ s) v ≡ b
  read_back empty done v s st h once out clear = ap (λ z. block_at items z v) (sym (append-nil s)) ∙ skip v s [] (λ z a. (clear z a).0)
  read_back empty (action t d rest) v s st h once out clear = absurd h
  read_back empty (branch t e p q rest) v s st h once out clear = absurd h
  read_back empty (loop t e p rest) v s st h once out clear = absurd h
  read_back (node c y n r) b v s st h once out clear =
      let ys = preorder y in
      let ns = preorder n in
      let rs = preorder r in
      let all : List ℕ = c ∷ (ys ++ (ns ++ rs)) in
      let lines : (ys ++ (ns ++ rs)) ++ s ≡ ys ++ (ns ++ (rs ++ s)) = append_assoc ys (ns ++ rs) s ∙ ap (λ z. ys ++ z) (append_assoc ns rs s) in
      let not_v : (w : Slot) → owner w ≡ Some c → w ≡ v → ⊥ = λ w o is. out c (sym (ap owner is) ∙ o) (in_first c (ys ++ (ns ++ rs))) in
      let c_in : (xs : List ℕ) → ((z : ℕ) → Contains xs z → Contains (ys ++ (ns ++ rs)) z) → Contains xs c → ⊥ = λ xs sub a. once.0 (sub c a) in
      let in_ys : (z : ℕ) → Contains ys z → Contains (ys ++ (ns ++ rs)) z = λ z a. Contains-append_left ys (ns ++ rs) z a in
      let in_ns : (z : ℕ) → Contains ns z → Contains (ys ++ (ns ++ rs)) z = λ z a. Contains-append_right ys (ns ++ rs) z (Contains-append_left ns rs z a) in
      let in_rs : (z : ℕ) → Contains rs z → Contains (ys ++ (ns ++ rs)) z = λ z a. Contains-append_right ys (ns ++ rs) z (Contains-append_right ns rs z a) in
      let apart_y : (z : ℕ) → Contains ys z → Contains (ns ++ rs) z → ⊥ = λ z a d. once_parts ys (ns ++ rs) z once.1 a d in
      let once_nr : IsDistinct (ns ++ rs) = once_right ys (ns ++ rs) once.1 in
      let apart_n : (z : ℕ) → Contains ns z → Contains rs z → ⊥ = λ z a d. once_parts ns rs z once_nr a d in
      let out_all : (xs : List ℕ) → ((z : ℕ) → Contains xs z → Contains (ys ++ (ns ++ rs)) z) → Outside xs v = λ xs sub w o a. out w o (in_later c w (ys ++ (ns ++ rs)) (sub w a)) in
      let s_clear : (u : Slot) (xs : List ℕ) → owner u ≡ Some c → ((z : ℕ) → Contains xs z → Contains (ys ++ (ns ++ rs)) z) → Clear u xs s =
      λ u xs o sub z a. ((λ is. (clear z a).1 c (ap owner is ∙ o) (in_first c (ys ++ (ns ++ rs)))), (λ w p d. (clear z a).1 w p (in_later c w (ys ++ (ns ++ rs)) (sub w d)))) in
      let r_clear : (u : Slot) (xs : List ℕ) → owner u ≡ Some c → ((z : ℕ) → Contains xs z → Contains (ys ++ (ns ++ rs)) z) → ((z : ℕ) → Contains xs z → Contains rs z → ⊥) → Clear u xs rs =
      λ u xs o sub apart z a. elim (inside r v z st.3 a) [
        | inl is ↦ ((λ e. not_v u o (sym e ∙ is)), (λ w p d. out_all xs sub w (sym (ap owner is) ∙ p) d))
        | inr (w', is, k) ↦ (
          (λ e. once.0 (in_rs c (subst (Contains rs) (some_inj w' c (sym is ∙ ap owner e ∙ o)) k))),
          (λ w p d. apart w d (subst (Contains rs) (some_inj w' w (sym is ∙ p)) k)),
        )
      ] in
      let n_clear : Clear (Some (c, true)) ys ns =
      λ z a. elim (inside n (Some (c, false)) z st.2 a) [
        | inl is ↦ ((λ e. first_second (slot_at items z) c c e is), (λ w p d. once.0 (in_ys c (subst (Contains ys) (some_inj w c (sym p ∙ ap owner is)) d))))
        | inr (w', is, k) ↦ (
          (λ e. once.0 (in_ns c (subst (Contains ns) (some_inj w' c (sym is ∙ ap owner e)) k))),
          (λ w p d. apart_y w d (Contains-append_left ns rs w (subst (Contains ns) (some_inj w' w (sym is ∙ p)) k))),
        )
      ] in
      let y_none : (u : Slot) → (u ≡ Some (c, true) → ⊥) → Outside ys u → NoneIn u ys =
      λ u other away z a is. elim (inside y (Some (c, true)) z st.1 a) [
        | inl e ↦ other (sym is ∙ e)
        | inr (w, o, k) ↦ away w (sym (ap owner is) ∙ o) k
      ] in
      let n_none : NoneIn v ns =
      λ z a is. elim (inside n (Some (c, false)) z st.2 a) [
        | inl e ↦ not_v (Some (c, false)) refl (sym e ∙ is)
        | inr (w, o, k) ↦ out_all ns in_ns w (sym (ap owner is) ∙ o) k
      ] in
      let c_out : (xs : List ℕ) → ((z : ℕ) → Contains xs z → Contains (ys ++ (ns ++ rs)) z) → (b : Bool) → Outside xs (Some (c, b)) =
      λ xs sub b w o d. once.0 (sub c (subst (Contains xs) (sym (some_inj c w o)) d)) in
      let read_y : (p : Body) → IsBlockOf items y p → block_at items (ys ++ (ns ++ (rs ++ s))) (Some (c, true)) ≡ p =
      λ p hp. read_back y p (Some (c, true)) (ns ++ (rs ++ s)) st.1 hp (once_left ys (ns ++ rs) once.1) (c_out ys in_ys true)
      (clear_append (Some (c, true)) ys ns (rs ++ s) n_clear (clear_append (Some (c, true)) ys rs s
      (r_clear (Some (c, true)) ys refl in_ys (λ z a d. apart_y z a (Contains-append_right ns rs z d))) (s_clear (Some (c, true)) ys refl in_ys))) in
      let read_n : (q : Body) → IsBlockOf items n q → block_at items (ys ++ (ns ++ (rs ++ s))) (Some (c, false)) ≡ q =
      λ q hq. skip (Some (c, false)) ys (ns ++ (rs ++ s)) (y_none (Some (c, false)) (λ k. first_second (Some (c, false)) c c k refl) (c_out ys in_ys false))
      ∙ read_back n q (Some (c, false)) (rs ++ s) st.2 hq (once_left ns rs once_nr) (c_out ns in_ns false)
      (clear_append (Some (c, false)) ns rs s (r_clear (Some (c, false)) ns refl in_ns apart_n) (s_clear (Some (c, false)) ns refl in_ns)) in
      let read_r : (o : Body) → IsBlockOf items r o → block_at items (ys ++ (ns ++ (rs ++ s))) v ≡ o =
      λ o ho. skip v ys (ns ++ (rs ++ s)) (y_none v (λ k. not_v (Some (c, true)) refl (sym k)) (out_all ys in_ys))
      ∙ skip v ns (rs ++ s) n_none
      ∙ read_back r o v s st.3 ho (once_right ns rs once_nr) (out_all rs in_rs)
      (λ z a. ((clear z a).0, (λ w p d. (clear z a).1 w p (in_later c w (ys ++ (ns ++ rs)) (in_rs w d))))) in
      ap (λ z. block_at items (c ∷ z) v) lines ∙ at b (ys ++ (ns ++ (rs ++ s))) read_y read_n read_r h
    where
      one_part : (l : List ℕ) (t : Tag) (d : Content) (p q o : Body) → IsItem items c t d → block_at items l (Some (c, true)) ≡ p → block_at items l (Some (c, false)) ≡ q
          → block_at items l v ≡ o → block_at items (c ∷ l) v ≡ said t d p q o
      one_part l t d p q o (i, a, it, ic) ep eq eo =
          with_its (slice_get items c) i c (block_at items l) v a st.0
          ∙ block_said items c i t d (block_at items l (Some (c, true))) (block_at items l (Some (c, false))) (block_at items l v) it ic
          ∙ ap (λ z. said t d z (block_at items l (Some (c, false))) (block_at items l v)) ep
          ∙ ap (λ z. said t d p z (block_at items l v)) eq
          ∙ ap (λ z. said t d p q z) eo

      at : (b : Body) (l : List ℕ) → ((p : Body) → IsBlockOf items y p → block_at items l (Some (c, true)) ≡ p)
          → ((q : Body) → IsBlockOf items n q → block_at items l (Some (c, false)) ≡ q)
          → ((o : Body) → IsBlockOf items r o → block_at items l v ≡ o) → IsBlockOf items (node c y n r) b → block_at items (c ∷ l) v ≡ b
      at done l ry rn rr h = absurd h
      at (action t action_ rest) l ry rn rr h = one_part l t (content_by action_) done done rest h.0 (ry done h.1) (rn done h.2) (rr rest h.3) ∙ before_by t action_ done done rest
      at (branch t e p q rest) l ry rn rr h = one_part l t (If e) p q rest h.0 (ry p h.1) (rn q h.2) (rr rest h.3)
      at (loop t e p rest) l ry rn rr h = one_part l t (While e) p done rest h.0 (ry p h.1) (rn done h.2) (rr rest h.3)

  -- a whole tree is read back from its preorder
  pub read_whole : (t : Tree) (b : Body) → StandsIn (slot_at items) None t → IsBlockOf items t b → IsDistinct (preorder t) → block_at items (preorder t) None ≡ b
  read_whole t b st h once =
      ap (λ z. block_at items z None) (sym (append-nil (preorder t)))
      ∙ read_back t b None [] st h once (λ w o a. absurd cc) (λ z a. absurd (in_none z a))

  -- an item has the blocks that its part has
  block_of_none : (t : Tree) (c : ℕ) (b : Bool) (u : Tag) (d : Content) → ((k j : ℕ) (m : Bool) → k < length items → slot_at items k ≡ Some (j, m) → (t : Tag) × (c : Content) × IsItem items j t c × AllowsIn c m)
      → ((k : ℕ) → Contains (preorder t) k → k < length items) → StandsIn (slot_at items) (Some (c, b)) t → IsItem items c u d → (AllowsIn d b → ⊥) → IsBlockOf items t done
  block_of_none empty c b u d held within st i never = tt
  block_of_none (node k y n r) c b u d held within st i never =
      absurd (let (u', d', j, may) = held k c b (within k (in_first k (preorder y ++ (preorder n ++ preorder r)))) st.0 in
      never (subst (λ z. AllowsIn z b) (same_content c u' u d' d j i) may))
    where
      same_content : (c : ℕ) (t u : Tag) (e f : Content) → IsItem items c t e → IsItem items c u f → e ≡ f
      same_content c t u e f (i, a, it, ic) (j, b, jt, jc) = let same : i ≡ j = cc in sym ic ∙ ap (λ (x : Item). x.content) same ∙ jc

  no_branch : (d : Action) (b : Bool) → AllowsIn (content_by d) b → ⊥
  no_branch d b may = subst (λ (s : Structure). HasBranch s b) (structure_by d) may

  -- each tree whose items stand in their slots is that of a block
  pub block_there : (t : Tree) (v : Slot) → ((k j : ℕ) (m : Bool) → k < length items → slot_at items k ≡ Some (j, m) → (t : Tag) × (c : Content) × IsItem items j t c × AllowsIn c m)
      → ((k : ℕ) → Contains (preorder t) k → k < length items) → StandsIn (slot_at items) v t → (b : Body) × IsBlockOf items t b
  block_there empty v held within st = (done, tt)
  block_there (node c y n r) v held within st =
      let (p, hp) = block_there y (Some (c, true)) held (λ k a. within k (in_one c y n r k a)) st.1 in
      let (q, hq) = block_there n (Some (c, false)) held (λ k a. within k (in_two c y n r k a)) st.2 in
      let (o, ho) = block_there r v held (λ k a. within k (in_three c y n r k a)) st.3 in
      let (i, is) = get_below items c (within c (in_first c (preorder y ++ (preorder n ++ preorder r)))) in
      at i.content (says_by i.content) i is refl p hp q hq o ho
    where
      at : (d : Content) → SaysBy d → (i : Item) → slice_get items c ≡ Some i → i.content ≡ d → (p : Body) → IsBlockOf items y p → (q : Body) → IsBlockOf items n q → (o : Body) → IsBlockOf items r o
          → (b : Body) × IsBlockOf items (node c y n r) b
      at _ (by_action action_) i is says p hp q hq o ho = (
        action i.tag action_ o,
        (
          (i, is, refl, says),
          block_of_none y c true i.tag (content_by action_) held (λ k a. within k (in_one c y n r k a)) st.1 (i, is, refl, says) (no_branch action_ true),
          block_of_none n c false i.tag (content_by action_) held (λ k a. within k (in_two c y n r k a)) st.2 (i, is, refl, says) (no_branch action_ false),
          ho,
        ),
      )
      at _ (by_test e) i is says p hp q hq o ho = (branch i.tag e p q o, ((i, is, refl, says), hp, hq, ho))
      at _ (by_loop e) i is says p hp q hq o ho = (
        loop i.tag e p o,
        (
          (i, is, refl, says),
          hp,
          block_of_none n c false i.tag (While e) held (λ k a. within k (in_two c y n r k a)) st.2 (i, is, refl, says) (λ may. absurd cc),
          ho,
        ),
      )
