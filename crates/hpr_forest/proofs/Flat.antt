-- The order of a tree that has all items is a whole order, and each first block stands before the second.
use Rattle.std.proofs.Common.{◌≡◌, ℕ, ◌<◌, Bool, true, false, Option, Some, None, List, [], ◌∷◌, ◌++◌, length, Contains, ◌⊎◌, inl, inr, refl, sym, ap, ◌∙◌, subst, append_assoc}
use Rattle.std.proofs.lemmas.List.Elements.{Contains-append_left, Contains-append_right, Contains-append_cases}
use Rattle.std.proofs.lemmas.List.{append-nil}
use Rattle.std.proofs.lemmas.Bool.{true≢false}
use Rattle.hpr_forest.specs.Choices.{Follows, IsWhole}
use Rattle.hpr_forest.proofs.Unique.{in_none, in_cons, in_first, in_later}
use Rattle.hpr_forest.specs.Forest.{Forest, IsForest, can, bare}
use Rattle.hpr_forest.specs.Trees.{Tree, empty, node, preorder, Slot, above, StandsIn}
use Rattle.hpr_forest.proofs.Members.{IsDistinct, is_in-true}
use Rattle.hpr_forest.proofs.May.{IsFull, IsUnder, May, from-may, behind_split, behind_has}
use Rattle.hpr_forest.proofs.Lift.{once_parts}
use Rattle.hpr_forest.proofs.Grow.{behind_more}

pub once_left : (l r : List ℕ) → IsDistinct (l ++ r) → IsDistinct l
once_left [] r h = tt
once_left (x ∷ l) r h = ((λ k. h.0 (Contains-append_left l r x k)), once_left l r h.1)

pub once_right : (l r : List ℕ) → IsDistinct (l ++ r) → IsDistinct r
once_right [] r h = h
once_right (x ∷ l) r h = once_right l r h.1

-- each item of a list has a property over those before it
abbrev pub Steps : (List ℕ → ℕ → Type 0) → List ℕ → List ℕ → Type 0
Steps P p [] = Unit {0}
Steps P p (c ∷ l) = P p c × Steps P (p ++ c ∷ []) l

steps_append : (P : List ℕ → ℕ → Type 0) (p l r : List ℕ) → Steps P p l → Steps P (p ++ l) r → Steps P p (l ++ r)
steps_append P p [] r h k = subst (λ q. Steps P q r) (append-nil p) k
steps_append P p (c ∷ l) r h k = (h.0, steps_append P (p ++ c ∷ []) l r h.1 (subst (λ q. Steps P q r) (sym (append_assoc p (c ∷ []) l)) k))

pub steps_at : (P : List ℕ → ℕ → Type 0) (p l1 l2 : List ℕ) (c : ℕ) → Steps P p (l1 ++ c ∷ l2) → P (p ++ l1) c
steps_at P p [] l2 c h = subst (λ q. P q c) (sym (append-nil p)) h.0
steps_at P p (d ∷ l1) l2 c h = subst (λ q. P q c) (append_assoc p (d ∷ []) l1) (steps_at P (p ++ d ∷ []) l1 l2 c h.1)

module _ (f : Forest) (it : IsForest f) (slot : ℕ → Slot) (parents : (x : ℕ) → f.parent x ≡ above (slot x)) where
  -- an item may stand next, and where it is of a second block the first block is placed
  pub record Placed (p : List ℕ) (c : ℕ) : Type 0 where
    pub may : May (bare f) p c
    pub labels : (d x : ℕ) → slot c ≡ Some (x, false) → slot d ≡ Some (x, true) → Contains p d

  record Ready (p : List ℕ) (v : Slot) : Type 0 where
    pub under : IsUnder (bare f) p (above v)
    pub labels : (d x : ℕ) → v ≡ Some (x, false) → slot d ≡ Some (x, true) → Contains p d

  abbrev Full : List ℕ → List ℕ → Type 0
  Full p xs = (w : ℕ) → Contains xs w → (z : ℕ) → f.parent z ≡ Some w → Contains p z

  -- an item of a block stands in its slot or under another item of the block
  pub inside : (t : Tree) (v : Slot) (z : ℕ) → StandsIn slot v t → Contains (preorder t) z → (slot z ≡ v) ⊎ ((w : ℕ) × (f.parent z ≡ Some w) × Contains (preorder t) w)
  inside empty v z s h = absurd (in_none z h)
  inside (node c y n r) v z s h = elim (in_cons c z (preorder y ++ (preorder n ++ preorder r)) h) [
    | inl e ↦ inl (subst (λ q. slot q ≡ v) e s.0)
    | inr later ↦ elim (Contains-append_cases (preorder y) (preorder n ++ preorder r) z later) [
      | inl hy ↦ elim (inside y (Some (c, true)) z s.1 hy) [
        | inl is ↦ inr (c, parents z ∙ ap above is, in_first c (preorder y ++ (preorder n ++ preorder r)))
        | inr (w, is, hw) ↦ inr (w, is, in_later c w (preorder y ++ (preorder n ++ preorder r)) (Contains-append_left (preorder y) (preorder n ++ preorder r) w hw))
      ]
      | inr hnr ↦ elim (Contains-append_cases (preorder n) (preorder r) z hnr) [
        | inl hn ↦ elim (inside n (Some (c, false)) z s.2 hn) [
          | inl is ↦ inr (c, parents z ∙ ap above is, in_first c (preorder y ++ (preorder n ++ preorder r)))
          | inr (w, is, hw) ↦ inr (w, is, in_later c w (preorder y ++ (preorder n ++ preorder r)) (Contains-append_right (preorder y) (preorder n ++ preorder r) w (Contains-append_left (preorder n) (preorder r) w hw)))
        ]
        | inr hr ↦ elim (inside r v z s.3 hr) [
          | inl is ↦ inl is
          | inr (w, is, hw) ↦ inr (w, is, in_later c w (preorder y ++ (preorder n ++ preorder r)) (Contains-append_right (preorder y) (preorder n ++ preorder r) w (Contains-append_right (preorder n) (preorder r) w hw)))
        ]
      ]
    ]
  ]

  pub some_same : (a b : ℕ) → Some a ≡ Some b → a ≡ b
  some_same a b e = cc

  -- where an item's parent is among a block, and the item is in it too, the parent is the block's or in it
  parent_in : (t : Tree) (v : Slot) (z w : ℕ) → StandsIn slot v t → Contains (preorder t) z → f.parent z ≡ Some w → (slot z ≡ v) × (above v ≡ Some w) ⊎ Contains (preorder t) w
  parent_in t v z w s h is = elim (inside t v z s h) [
    | inl e ↦ inl (e, sym (ap above e) ∙ sym (parents z) ∙ is)
    | inr (u, is', hu) ↦ inr (subst (λ q. Contains (preorder t) q) (some_same u w (sym is' ∙ is)) hu)
  ]

  abbrev Closed : List ℕ → Type 0
  Closed l = (z w : ℕ) → f.parent z ≡ Some w → Contains l w → Contains l z

  abbrev Apart : List ℕ → List ℕ → Type 0
  Apart p l = (x : ℕ) → Contains p x → Contains l x → ⊥

  above_placed : (p : List ℕ) (v : Slot) (w : ℕ) → Ready p v → above v ≡ Some w → Contains p w
  above_placed p v w ready e =
      let (xs, k, _) = subst (IsUnder (bare f) p) e ready.under in
      let (front, e') = behind_has (bare f) p xs w k in
      subst (λ q. Contains q w) (sym e') (Contains-append_right front (w ∷ xs) w (in_first w xs))

  full_under : (p xs : List ℕ) → Full p xs → IsFull (bare f) p xs
  full_under p xs full x h y k = full x h y (it.down x y k).1

  under_full : (p xs : List ℕ) → IsFull (bare f) p xs → Full p xs
  under_full p xs full w h z is = full w h z (is_in-true (f.children w) z (it.up w z is))

  full_more : (p s xs : List ℕ) → Full p xs → Full (p ++ s) xs
  full_more p s xs full w h z is = Contains-append_left p s z (full w h z is)

  full_append : (p xs ys : List ℕ) → Full p xs → Full p ys → Full p (xs ++ ys)
  full_append p xs ys a b w h = elim (Contains-append_cases xs ys w h) [ inl l ↦ a w l | inr r ↦ b w r ]

  -- after full items the slot is ready as before
  ready_more : (p s : List ℕ) (v : Slot) → Ready p v → Full (p ++ s) s → Ready (p ++ s) v
  ready_more p s v ready full = record {
    under = at (above v) refl ready.under;
    labels = λ d x e k. Contains-append_left p s d (ready.labels d x e k);
  }
    where
      at : (u : Option ℕ) → above v ≡ u → IsUnder (bare f) p u → IsUnder (bare f) (p ++ s) (above v)
      at None e old = subst (IsUnder (bare f) (p ++ s)) (sym e) (full_under (p ++ s) (p ++ s) (full_append (p ++ s) p s (full_more p s p (under_full p p old)) full))
      at (Some x) e (xs, k, old) = subst (IsUnder (bare f) (p ++ s)) (sym e)
          (xs ++ s, behind_more x p s xs k, full_under (p ++ s) (xs ++ s) (full_append (p ++ s) xs s (full_more p s xs (under_full p xs old)) full))

  abbrev label : Slot → Bool
  label None = true
  label (Some (a, b)) = b

  pub slots_differ : (u : Slot) (a b : ℕ) → u ≡ Some (a, true) → u ≡ Some (b, false) → ⊥
  slots_differ u a b e k = true≢false (ap label (sym e ∙ k))

  second_same : (u : Slot) (a b : ℕ) → u ≡ Some (a, false) → u ≡ Some (b, false) → a ≡ b
  second_same u a b e k = some_same a b (ap above (sym e ∙ k))

  flat : (t : Tree) (v : Slot) (p : List ℕ) → StandsIn slot v t → Ready p v → Apart p (preorder t) → IsDistinct (preorder t)
      → ((x : ℕ) → Contains (preorder t) x → x < f.count) → Closed (preorder t)
      → Steps Placed p (preorder t) × Full (p ++ preorder t) (preorder t)
  flat empty v p s ready apart once within closed = (tt, λ w h. absurd (in_none w h))
  flat (node c y n r) v p s ready apart once within closed =
      let ys = preorder y in let ns = preorder n in let rs = preorder r in
      let nr = ns ++ rs in let rest = ys ++ nr in let l = c ∷ rest in
      let iy : (z : ℕ) → Contains ys z → Contains rest z = λ z h. Contains-append_left ys nr z h in
      let inn : (z : ℕ) → Contains ns z → Contains rest z = λ z h. Contains-append_right ys nr z (Contains-append_left ns rs z h) in
      let ir : (z : ℕ) → Contains rs z → Contains rest z = λ z h. Contains-append_right ys nr z (Contains-append_right ns rs z h) in
      let onr : IsDistinct nr = once_right ys nr once.1 in
      let yn : (z : ℕ) → Contains ys z → Contains ns z → ⊥ = λ z a b. once_parts ys nr z once.1 a (Contains-append_left ns rs z b) in
      let yr : (z : ℕ) → Contains ys z → Contains rs z → ⊥ = λ z a b. once_parts ys nr z once.1 a (Contains-append_right ns rs z b) in
      let nr_ : (z : ℕ) → Contains ns z → Contains rs z → ⊥ = λ z a b. once_parts ns rs z onr a b in
      let not_c : (w : ℕ) → c ≡ w → Contains rest w → ⊥ = λ w e h. once.0 (subst (Contains rest) (sym e) h) in
      let fresh : Contains p c → ⊥ = λ h. apart c h (in_first c rest) in
      let not_above : (w : ℕ) → above v ≡ Some w → Contains l w → ⊥ = λ w e h. apart w (above_placed p v w ready e) h in
      let above_c : (z w : ℕ) → c ≡ z → f.parent z ≡ Some w → above v ≡ Some w = λ z w same e. sym (ap above s.0) ∙ sym (parents c) ∙ subst (λ q. f.parent q ≡ Some w) (sym same) e in
      let cases : (z w : ℕ) → f.parent z ≡ Some w → Contains l w → (Contains ys z ⊎ Contains ns z) ⊎ Contains rs z =
      λ z w is hw. elim (in_cons c z rest (closed z w is hw)) [
        | inl same ↦ absurd (not_above w (above_c z w same is) hw)
        | inr later ↦ elim (Contains-append_cases ys nr z later) [
          | inl a ↦ inl (inl a)
          | inr b ↦ elim (Contains-append_cases ns rs z b) [ inl a ↦ inl (inr a) | inr a ↦ inr a ]
        ]
      ] in
      let from_y : (z w : ℕ) → f.parent z ≡ Some w → Contains ys z → (c ≡ w) ⊎ Contains ys w = λ z w is h.
      elim (parent_in y (Some (c, true)) z w s.1 h is) [ inl e ↦ inl (some_same c w e.1) | inr k ↦ inr k ] in
      let from_n : (z w : ℕ) → f.parent z ≡ Some w → Contains ns z → (c ≡ w) ⊎ Contains ns w = λ z w is h.
      elim (parent_in n (Some (c, false)) z w s.2 h is) [ inl e ↦ inl (some_same c w e.1) | inr k ↦ inr k ] in
      let from_r : (z w : ℕ) → f.parent z ≡ Some w → Contains l w → Contains rs z → Contains rs w = λ z w is hw h.
      elim (parent_in r v z w s.3 h is) [ inl e ↦ absurd (not_above w e.1 hw) | inr k ↦ k ] in
      let closed_y : Closed ys = λ z w is hw. elim (cases z w is (in_later c w rest (iy w hw))) [
        | inl yz ↦ elim yz [ inl a ↦ a | inr b ↦ absurd (elim (from_n z w is b) [ inl e ↦ not_c w e (iy w hw) | inr k ↦ yn w hw k ]) ]
        | inr b ↦ absurd (yr w hw (from_r z w is (in_later c w rest (iy w hw)) b))
      ] in
      let closed_n : Closed ns = λ z w is hw. elim (cases z w is (in_later c w rest (inn w hw))) [
        | inl yz ↦ elim yz [ inl a ↦ absurd (elim (from_y z w is a) [ inl e ↦ not_c w e (inn w hw) | inr k ↦ yn w k hw ]) | inr b ↦ b ]
        | inr b ↦ absurd (nr_ w hw (from_r z w is (in_later c w rest (inn w hw)) b))
      ] in
      let closed_r : Closed rs = λ z w is hw. elim (cases z w is (in_later c w rest (ir w hw))) [
        | inl yz ↦ elim yz [
          | inl a ↦ absurd (elim (from_y z w is a) [ inl e ↦ not_c w e (ir w hw) | inr k ↦ yr w k hw ])
          | inr a ↦ absurd (elim (from_n z w is a) [ inl e ↦ not_c w e (ir w hw) | inr k ↦ nr_ w k hw ])
        ]
        | inr b ↦ b
      ] in
      let kids : (z : ℕ) → f.parent z ≡ Some c → Contains ys z ⊎ Contains ns z = λ z is. elim (cases z c is (in_first c rest)) [
        | inl yz ↦ yz
        | inr b ↦ absurd (not_c c refl (ir c (from_r z c is (in_first c rest) b)))
      ] in
      let placed : Placed p c = record {
        may = record { within = within c (in_first c rest); fresh = fresh; under = subst (IsUnder (bare f) p) (sym (parents c ∙ ap above s.0)) ready.under; ready = λ d k. absurd (in_none d k) };
        labels = λ d x e k. ready.labels d x (sym s.0 ∙ e) k;
      } in
      let p1 : List ℕ = p ++ c ∷ [] in let p2 : List ℕ = p1 ++ ys in let p3 : List ℕ = p2 ++ ns in
      let ap1 : (x : ℕ) → Contains p1 x → Contains rest x → ⊥ = λ x h k. elim (Contains-append_cases p (c ∷ []) x h) [
        | inl a ↦ apart x a (in_later c x rest k)
        | inr b ↦ elim (in_cons c x [] b) [ inl e ↦ not_c x e k | inr none ↦ in_none x none ]
      ] in
      let ap2 : (x : ℕ) → Contains p2 x → Contains nr x → ⊥ = λ x h k. elim (Contains-append_cases p1 ys x h) [
        | inl a ↦ ap1 x a (Contains-append_right ys nr x k)
        | inr b ↦ once_parts ys nr x once.1 b k
      ] in
      let ap3 : Apart p3 rs = λ x h k. elim (Contains-append_cases p2 ns x h) [
        | inl a ↦ ap2 x a (Contains-append_right ns rs x k)
        | inr b ↦ nr_ x b k
      ] in
      let ready1 : Ready p1 (Some (c, true)) = record {
        under = ([], behind_split f p [] c fresh, λ x h. absurd (in_none x h));
        labels = λ d x e k. absurd (slots_differ (Some (c, true)) c x refl e);
      } in
      let (sy, fy) = flat y (Some (c, true)) p1 s.1 ready1 (λ x h k. ap1 x h (iy x k)) (once_left ys nr once.1) (λ x h. within x (in_later c x rest (iy x h))) closed_y in
      let ready2' : Ready p2 (Some (c, true)) = ready_more p1 ys (Some (c, true)) ready1 fy in
      let ready2 : Ready p2 (Some (c, false)) = record {
        under = ready2'.under;
        labels = λ d x e k.
            let same : c ≡ x = second_same (Some (c, false)) c x refl e in
            let k' : slot d ≡ Some (c, true) = k ∙ ap (λ q. Some (q, true)) (sym same) in
            let up : f.parent d ≡ Some c = parents d ∙ ap above k' in
            elim (kids d up) [
              | inl a ↦ Contains-append_right p1 ys d a
              | inr b ↦ absurd (elim (parent_in n (Some (c, false)) d c s.2 b up) [ inl e' ↦ slots_differ (slot d) c c k' e'.0 | inr h ↦ not_c c refl (inn c h) ])
            ];
      } in
      let (sn, fn) = flat n (Some (c, false)) p2 s.2 ready2 (λ x h k. ap2 x h (Contains-append_left ns rs x k)) (once_left ns rs onr) (λ x h. within x (in_later c x rest (inn x h))) closed_n in
      let full3 : Full p3 (c ∷ (ys ++ ns)) = λ w h z is. elim (in_cons c w (ys ++ ns) h) [
        | inl e ↦ elim (kids z (is ∙ ap Some (sym e))) [
          | inl a ↦ Contains-append_left p2 ns z (Contains-append_right p1 ys z a)
          | inr b ↦ Contains-append_right p2 ns z b
        ]
        | inr later ↦ elim (Contains-append_cases ys ns w later) [
          | inl a ↦ Contains-append_left p2 ns z (fy w a z is)
          | inr b ↦ fn w b z is
        ]
      ] in
      let e3 : p ++ c ∷ (ys ++ ns) ≡ p3 = sym (append_assoc p (c ∷ []) (ys ++ ns)) ∙ sym (append_assoc p1 ys ns) in
      let ready3 : Ready p3 v = subst (λ q. Ready q v) e3 (ready_more p (c ∷ (ys ++ ns)) v ready (subst (λ q. Full q (c ∷ (ys ++ ns))) (sym e3) full3)) in
      let (sr, fr) = flat r v p3 s.3 ready3 ap3 (once_right ns rs onr) (λ x h. within x (in_later c x rest (ir x h))) closed_r in
      let e4 : p3 ++ rs ≡ p ++ l = ap (λ q. q ++ rs) (sym e3) ∙ append_assoc p (c ∷ (ys ++ ns)) rs ∙ ap (λ q. p ++ c ∷ q) (append_assoc ys ns rs) in
      let full4 : Full (p3 ++ rs) ((c ∷ (ys ++ ns)) ++ rs) = full_append (p3 ++ rs) (c ∷ (ys ++ ns)) rs (full_more p3 rs (c ∷ (ys ++ ns)) full3) fr in (
        (placed, steps_append Placed p1 ys nr sy (steps_append Placed p2 ns rs sn sr)),
        subst (λ q. Full q l) e4 (subst (λ q. Full (p3 ++ rs) q) (ap (λ q. c ∷ q) (append_assoc ys ns rs)) full4),
      )

  steps_follow : (p l : List ℕ) → Steps Placed p l → Follows (can (bare f)) p l
  steps_follow p [] h = tt
  steps_follow p (c ∷ l) h = (from-may (bare f) p c h.0.may, steps_follow (p ++ c ∷ []) l h.1)

  -- the order of a tree that has each item once
  pub order_of_tree : (t : Tree) → StandsIn slot None t → IsDistinct (preorder t) → ((x : ℕ) → Contains (preorder t) x → x < f.count) → ((x : ℕ) → x < f.count → Contains (preorder t) x)
      → Steps Placed [] (preorder t)
  order_of_tree t s once within all = (flat t None [] s
      (record { under = λ x h. absurd (in_none x h); labels = λ d x e k. absurd cc })
      (λ x h k. in_none x h) once within (λ z w is h. all z (it.down w z (is_in-true (f.children w) z (it.up w z is))).0)).0

  pub whole_of_tree : (t : Tree) → StandsIn slot None t → IsDistinct (preorder t) → ((x : ℕ) → Contains (preorder t) x → x < f.count) → ((x : ℕ) → x < f.count → Contains (preorder t) x)
      → length (preorder t) ≡ f.count → IsWhole (can (bare f)) f.count (preorder t)
  whole_of_tree t s once within all len = record { len = len; follows = steps_follow [] (preorder t) (order_of_tree t s once within all) }
