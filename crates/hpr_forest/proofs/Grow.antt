-- Each whole order is the order of a tree.
use Rattle.std.proofs.Common.{◌≡◌, ℕ, zero, suc, ◌+◌, ◌≤◌, Bool, true, false, cond, eqb, Some, None, List, [], ◌∷◌, ◌++◌, length, Contains, ◌⊎◌, inl, inr, refl, sym, ap, ◌∙◌, subst, arith, append_assoc, length-append}
use Rattle.std.proofs.lemmas.List.Elements.{Contains-append_left, Contains-append_right, Contains-append_cases}
use Rattle.std.proofs.lemmas.List.{append-nil}
use Rattle.std.proofs.lemmas.Bool.{eqb-true, eq-eqb, both_ways}
use Rattle.hpr_forest.specs.Choices.{Follows, IsWhole}
use Rattle.hpr_forest.proofs.Unique.{in_none, in_cons, in_first, in_later}
use Rattle.hpr_forest.specs.Forest.{Forest, IsForest, behind, can}
use Rattle.hpr_forest.specs.Trees.{Tree, empty, node, preorder, Slot, above, StandsIn, HasSlots, same_slot}
use Rattle.hpr_forest.proofs.Members.{IsDistinct, is_in-true, split, first_where}
use Rattle.hpr_forest.proofs.May.{IsFull, IsUnder, May, may-from, follows_once, follows_at, behind_split, behind_has}
use Rattle.hpr_forest.proofs.Lift.{once_parts}

pub behind_more : (x : ℕ) (q s xs : List ℕ) → behind x q ≡ Some xs → behind x (q ++ s) ≡ Some (xs ++ s)
behind_more x [] s xs e = absurd cc
behind_more x (y ∷ q) s xs e = at (eqb y x) refl (behind_more x q s xs) e
  where
    at : (t : Bool) → eqb y x ≡ t → (behind x q ≡ Some xs → behind x (q ++ s) ≡ Some (xs ++ s)) → cond t (Some q) (behind x q) ≡ Some xs → cond t (Some (q ++ s)) (behind x (q ++ s)) ≡ Some (xs ++ s)
    at true is rest e' = let same : q ≡ xs = cc in ap (λ w. Some (w ++ s)) same
    at false is rest e' = rest e'

pub same_slot_true : (u v : Slot) → same_slot u v ≡ true → u ≡ v
same_slot_true None None e = refl
same_slot_true None (Some b) e = absurd cc
same_slot_true (Some a) None e = absurd cc
same_slot_true (Some (a, true)) (Some (b, true)) e = ap (λ x. Some (x, true)) (eqb-true a b e)
same_slot_true (Some (a, false)) (Some (b, false)) e = ap (λ x. Some (x, false)) (eqb-true a b e)
same_slot_true (Some (a, true)) (Some (b, false)) e = absurd cc
same_slot_true (Some (a, false)) (Some (b, true)) e = absurd cc

pub same_slot_itself : (u : Slot) → same_slot u u ≡ true
same_slot_itself None = refl
same_slot_itself (Some (a, true)) = eq-eqb a a refl
same_slot_itself (Some (a, false)) = eq-eqb a a refl

not_same : (u v : Slot) → same_slot u v ≡ false → u ≡ v → ⊥
not_same u v e is = both_ways (same_slot u v) e (ap (λ w. same_slot w v) is ∙ same_slot_itself v)

-- a list up to its first item of a slot
cut : (slot : ℕ → Slot) (v : Slot) (l : List ℕ) → (s r : List ℕ) × (l ≡ s ++ r) × ((z : ℕ) → Contains s z → slot z ≡ v → ⊥)
    × ((r ≡ []) ⊎ ((e : ℕ) × (r' : List ℕ) × (r ≡ e ∷ r') × (slot e ≡ v)))
cut slot v l = elim (first_where (λ z. same_slot (slot z) v) l) [
  | inl none ↦ (l, [], sym (append-nil l), λ z h. not_same (slot z) v (none z h), inl refl)
  | inr (l1, l2, c, e, is, none) ↦ (l1, c ∷ l2, e, λ z h. not_same (slot z) v (none z h), inr (c, l2, refl, same_slot_true (slot c) v is))
]

module _ (f : Forest) (it : IsForest f) (slot : ℕ → Slot) (has : HasSlots f slot) where
  follows_rest : (p l1 l2 : List ℕ) → Follows (can f) p (l1 ++ l2) → Follows (can f) (p ++ l1) l2
  follows_rest p [] l2 h = subst (λ q. Follows (can f) q l2) (sym (append-nil p)) h
  follows_rest p (d ∷ l1) l2 h = subst (λ q. Follows (can f) q l2) (append_assoc p (d ∷ []) l1) (follows_rest (p ++ d ∷ []) l1 l2 h.1)

  follows_first : (p l1 l2 : List ℕ) → Follows (can f) p (l1 ++ l2) → Follows (can f) p l1
  follows_first p [] l2 h = tt
  follows_first p (d ∷ l1) l2 h = (h.0, follows_first (p ++ d ∷ []) l1 l2 h.1)

  -- an item of the list stands in the slot v, or under another item of the list
  abbrev IsLocal : Slot → List ℕ → Type 0
  IsLocal v l = (z : ℕ) → Contains l z → (slot z ≡ v) ⊎ ((w : ℕ) × (f.parent z ≡ Some w) × Contains l w)

  -- what an item stands under is before it
  earlier : (p l1 l2 : List ℕ) (z w : ℕ) → Follows (can f) p (l1 ++ z ∷ l2) → f.parent z ≡ Some w → Contains (l1 ++ z ∷ l2) w → Contains l1 w
  earlier p l1 l2 z w h is inside =
      let m = may-from f (p ++ l1) z (follows_at f p l1 l2 z h) in
      let (xs, k, _) = subst (IsUnder f (p ++ l1)) is m.under in
      let (front, e) = behind_has f (p ++ l1) xs w k in
      let before : Contains (p ++ l1) w = subst (λ q. Contains q w) (sym e) (Contains-append_right front (w ∷ xs) w (in_first w xs)) in
      elim (Contains-append_cases p l1 w before) [
        | inr here ↦ here
        | inl old ↦ absurd ((follows_once f p (l1 ++ z ∷ l2) h).0 w old inside)
      ]

  by_slot : (z w : ℕ) → f.parent z ≡ Some w → (slot z ≡ Some (w, true)) ⊎ (slot z ≡ Some (w, false))
  by_slot z w is = at (slot z) refl (sym (has.parents z) ∙ is)
    where
      at : (v : Slot) → slot z ≡ v → above v ≡ Some w → (slot z ≡ Some (w, true)) ⊎ (slot z ≡ Some (w, false))
      at None e a = absurd cc
      at (Some (x, true)) e a = let same : x ≡ w = cc in inl (e ∙ ap (λ y. Some (y, true)) same)
      at (Some (x, false)) e a = let same : x ≡ w = cc in inr (e ∙ ap (λ y. Some (y, false)) same)

  -- what is between an item c of slot v and a next item of slot v is full there
  full_between : (p s : List ℕ) (c e : ℕ) (v : Slot) → slot c ≡ v → slot e ≡ v → May f p c → May f (p ++ c ∷ s) e → IsFull f (p ++ c ∷ s) (c ∷ s)
  full_between p s c e v cv ev mc me = at v cv ev
    where
      at : (v : Slot) → slot c ≡ v → slot e ≡ v → IsFull f (p ++ c ∷ s) (c ∷ s)
      at None cv ev x h =
          let full : IsFull f (p ++ c ∷ s) (p ++ c ∷ s) = subst (IsUnder f (p ++ c ∷ s)) (has.parents e ∙ ap above ev) me.under in
          full x (Contains-append_right p (c ∷ s) x h)
      at (Some (x0, b)) cv ev x h =
          let (xs, k, _) = subst (IsUnder f p) (has.parents c ∙ ap above cv) mc.under in
          let (ys, k', full) = subst (IsUnder f (p ++ c ∷ s)) (has.parents e ∙ ap above ev) me.under in
          let both : Some (xs ++ c ∷ s) ≡ Some ys = sym (behind_more x0 p (c ∷ s) xs k) ∙ k' in
          let same : xs ++ c ∷ s ≡ ys = cc in
          full x (subst (λ q. Contains q x) same (Contains-append_right xs (c ∷ s) x h))

  -- where an item of the parts under c stands
  under_parts : (p : List ℕ) (c : ℕ) (y n r : List ℕ) (v : Slot) → Follows (can f) p (c ∷ (y ++ (n ++ r))) → IsLocal v (c ∷ (y ++ (n ++ r)))
      → ((z : ℕ) → Contains (y ++ n) z → slot z ≡ v → ⊥) → (k1 k2 : List ℕ) (z : ℕ) → y ++ (n ++ r) ≡ k1 ++ z ∷ k2 → Contains (y ++ n) z
      → (w : ℕ) × (f.parent z ≡ Some w) × Contains (c ∷ k1) w
  under_parts p c y n r v h loc no_v k1 k2 z e inside =
      let whole : c ∷ (y ++ (n ++ r)) ≡ (c ∷ k1) ++ z ∷ k2 = ap (λ q. c ∷ q) e in
      let there : Contains (c ∷ (y ++ (n ++ r))) z = subst (λ q. Contains q z) (sym whole) (Contains-append_right (c ∷ k1) (z ∷ k2) z (in_first z k2)) in
      elim (loc z there) [
        | inl is ↦ absurd (no_v z inside is)
        | inr (w, is, h') ↦ (w, is, earlier p (c ∷ k1) k2 z w (subst (Follows (can f) p) whole h) is (subst (λ q. Contains q w) whole h'))
      ]

  local_y : (p : List ℕ) (c : ℕ) (y n r : List ℕ) (v : Slot) → Follows (can f) p (c ∷ (y ++ (n ++ r))) → IsLocal v (c ∷ (y ++ (n ++ r)))
      → ((z : ℕ) → Contains (y ++ n) z → slot z ≡ v → ⊥) → ((z : ℕ) → Contains y z → slot z ≡ Some (c, false) → ⊥) → IsLocal (Some (c, true)) y
  local_y p c y n r v h loc no_v no_false z inside =
      let (y1, y2, e) = split y z inside in
      let (w, is, at) = under_parts p c y n r v h loc no_v y1 (y2 ++ (n ++ r)) z (ap (λ q. q ++ (n ++ r)) e ∙ append_assoc y1 (z ∷ y2) (n ++ r)) (Contains-append_left y n z inside) in
      elim (in_cons c w y1 at) [
        | inl same ↦ elim (by_slot z c (is ∙ ap Some (sym same))) [ inl first ↦ inl first | inr second ↦ absurd (no_false z inside second) ]
        | inr later ↦ inr (w, is, subst (λ q. Contains q w) (sym e) (Contains-append_left y1 (z ∷ y2) w later))
      ]

  local_n : (p : List ℕ) (c : ℕ) (y n r : List ℕ) (v : Slot) → Follows (can f) p (c ∷ (y ++ (n ++ r))) → IsLocal v (c ∷ (y ++ (n ++ r)))
      → ((z : ℕ) → Contains (y ++ n) z → slot z ≡ v → ⊥)
      → (n ≡ []) ⊎ ((e : ℕ) × (n' : List ℕ) × (n ≡ e ∷ n') × (slot e ≡ Some (c, false))) → IsLocal (Some (c, false)) n
  local_n p c y n r v h loc no_v (inl none) z inside = absurd (in_none z (subst (λ q. Contains q z) none inside))
  local_n p c y n r v h loc no_v (inr (e0, n', is_n, slot_e)) z inside =
      let (n1, n2, e) = split n z inside in
      let (w, is, at) = under_parts p c y n r v h loc no_v (y ++ n1) (n2 ++ r) z
      (ap (λ q. y ++ (q ++ r)) e ∙ ap (λ q. y ++ q) (append_assoc n1 (z ∷ n2) r) ∙ sym (append_assoc y n1 (z ∷ (n2 ++ r)))) (Contains-append_right y n z inside) in
      let whole : c ∷ (y ++ (n ++ r)) ≡ (c ∷ y) ++ e0 ∷ (n' ++ r) = ap (λ q. c ∷ (y ++ (q ++ r))) is_n in
      let me : May f (p ++ c ∷ y) e0 = may-from f (p ++ c ∷ y) e0 (follows_at f p (c ∷ y) (n' ++ r) e0 (subst (Follows (can f) p) whole h)) in
      let (apart, once) = follows_once f p (c ∷ (y ++ (n ++ r))) h in
      let out : Contains (p ++ c ∷ y) z → ⊥ = λ hz. elim (Contains-append_cases p (c ∷ y) z hz) [
        | inl old ↦ apart z old (in_later c z (y ++ (n ++ r)) (Contains-append_right y (n ++ r) z (Contains-append_left n r z inside)))
        | inr new ↦ once_parts (c ∷ y) (n ++ r) z once new (Contains-append_left n r z inside)
      ] in
      elim (in_cons c w (y ++ n1) at) [
        | inl same ↦ elim (by_slot z c (is ∙ ap Some (sym same))) [
          | inl first ↦ absurd (out (me.ready z (has.labels e0 z c slot_e first)))
          | inr second ↦ inl second
        ]
        | inr later ↦ elim (Contains-append_cases y n1 w later) [
          | inr here ↦ inr (w, is, subst (λ q. Contains q w) (sym e) (Contains-append_left n1 (z ∷ n2) w here))
          | inl front ↦ (
              let (ys, k, full) = subst (IsUnder f (p ++ c ∷ y)) (has.parents e0 ∙ ap above slot_e) me.under in
              let fresh : Contains p c → ⊥ = λ hc. apart c hc (in_first c (y ++ (n ++ r))) in
              let both : Some y ≡ Some ys = sym (behind_split f p y c fresh) ∙ k in
              let same : y ≡ ys = cc in
              absurd (out (full w (subst (λ q. Contains q w) same front) z (is_in-true (f.children w) z (it.up w z is)))))
        ]
      ]

  local_r : (p : List ℕ) (c : ℕ) (y n r : List ℕ) (v : Slot) → Follows (can f) p (c ∷ (y ++ (n ++ r))) → IsLocal v (c ∷ (y ++ (n ++ r))) → slot c ≡ v
      → (r ≡ []) ⊎ ((e : ℕ) × (r' : List ℕ) × (r ≡ e ∷ r') × (slot e ≡ v)) → IsLocal v r
  local_r p c y n r v h loc cv (inl none) z inside = absurd (in_none z (subst (λ q. Contains q z) none inside))
  local_r p c y n r v h loc cv (inr (e0, r', is_r, slot_e)) z inside =
      let whole : c ∷ (y ++ (n ++ r)) ≡ (c ∷ (y ++ n)) ++ e0 ∷ r' = ap (λ q. c ∷ (y ++ (n ++ q))) is_r ∙ ap (λ q. c ∷ q) (sym (append_assoc y n (e0 ∷ r'))) in
      let me : May f (p ++ c ∷ (y ++ n)) e0 = may-from f (p ++ c ∷ (y ++ n)) e0 (follows_at f p (c ∷ (y ++ n)) r' e0 (subst (Follows (can f) p) whole h)) in
      let (apart, once) = follows_once f p (c ∷ (y ++ (n ++ r))) h in
      let full : IsFull f (p ++ c ∷ (y ++ n)) (c ∷ (y ++ n)) = full_between p (y ++ n) c e0 v cv slot_e (may-from f p c h.0) me in
      let there : Contains (c ∷ (y ++ (n ++ r))) z = in_later c z (y ++ (n ++ r)) (Contains-append_right y (n ++ r) z (Contains-append_right n r z inside)) in
      let joined : c ∷ (y ++ (n ++ r)) ≡ (c ∷ (y ++ n)) ++ r = ap (λ q. c ∷ q) (sym (append_assoc y n r)) in
      elim (loc z there) [
        | inl is ↦ inl is
        | inr (w, is, hw) ↦ elim (Contains-append_cases (c ∷ (y ++ n)) r w (subst (λ q. Contains q w) joined hw)) [
          | inr here ↦ inr (w, is, here)
          | inl front ↦ absurd (elim (Contains-append_cases p (c ∷ (y ++ n)) z (full w front z (is_in-true (f.children w) z (it.up w z is)))) [
            | inl old ↦ apart z old there
            | inr new ↦ once_parts (c ∷ (y ++ n)) r z (subst IsDistinct joined once) new inside
          ])
        ]
      ]

  pub grow : (k : ℕ) (p l : List ℕ) (v : Slot) → length l ≤ k → Follows (can f) p l → IsLocal v l
      → (t : Tree) × (preorder t ≡ l) × StandsIn slot v t
  grow k p [] v len h loc = (empty, refl, tt)
  grow zero p (c ∷ l) v len h loc = absurd (omega arith)
  grow (suc k) p (c ∷ l) v len h loc =
      let (s, r, e, no_v, r_is) = cut slot v l in
      let (y, n, e', no_false, n_is) = cut slot (Some (c, false)) s in
      let cv : slot c ≡ v = elim (loc c (in_first c l)) [
        | inl is ↦ is
        | inr (w, is, inside) ↦ absurd (in_none w (earlier p [] l c w h is inside))
      ] in
      let whole : c ∷ l ≡ c ∷ (y ++ (n ++ r)) = ap (λ z. c ∷ z) (e ∙ ap (λ z. z ++ r) e' ∙ append_assoc y n r) in
      let h' : Follows (can f) p (c ∷ (y ++ (n ++ r))) = subst (Follows (can f) p) whole h in
      let loc' : IsLocal v (c ∷ (y ++ (n ++ r))) = subst (IsLocal v) whole loc in
      let hy : Follows (can f) (p ++ c ∷ []) (y ++ (n ++ r)) = h'.1 in
      let hn : Follows (can f) ((p ++ c ∷ []) ++ y) (n ++ r) = follows_rest (p ++ c ∷ []) y (n ++ r) hy in
      let hr : Follows (can f) (((p ++ c ∷ []) ++ y) ++ n) r = follows_rest ((p ++ c ∷ []) ++ y) n r hn in
      let no_v' : (z : ℕ) → Contains (y ++ n) z → slot z ≡ v → ⊥ = λ z k. no_v z (subst (λ q. Contains q z) (sym e') k) in
      let sizes : length l ≡ length y + length n + length r = omega (arith, ap length e, length-append s r, ap length e', length-append y n) in
      let (ty, py, sy) = grow k (p ++ c ∷ []) y (Some (c, true)) (omega arith) (follows_first (p ++ c ∷ []) y (n ++ r) hy) (local_y p c y n r v h' loc' no_v' no_false) in
      let (tn, pn, sn) = grow k ((p ++ c ∷ []) ++ y) n (Some (c, false)) (omega arith) (follows_first ((p ++ c ∷ []) ++ y) n r hn) (local_n p c y n r v h' loc' no_v' n_is) in
      let (tr, pr, sr) = grow k (((p ++ c ∷ []) ++ y) ++ n) r v (omega arith) hr (local_r p c y n r v h' loc' cv r_is) in
      (node c ty tn tr, ap (λ a. c ∷ (a ++ (preorder tn ++ preorder tr))) py ∙ ap (λ a. c ∷ (y ++ (a ++ preorder tr))) pn ∙ ap (λ a. c ∷ (y ++ (n ++ a))) pr ∙ sym whole, (cv, sy, sn, sr))

  -- a whole order is the order of a tree
  pub tree_of_order : (l : List ℕ) → IsWhole (can f) f.count l → (t : Tree) × (preorder t ≡ l) × StandsIn slot None t
  tree_of_order l w = grow (length l) [] l None (omega arith) w.follows (λ z inside.
      let (l1, l2, e) = split l z inside in
      let m = may-from f l1 z (follows_at f [] l1 l2 z (subst (Follows (can f) []) e w.follows)) in
      at z l1 l2 e m (slot z) refl)
    where
      at : (z : ℕ) (l1 l2 : List ℕ) → l ≡ l1 ++ z ∷ l2 → May f l1 z → (v : Slot) → slot z ≡ v → (slot z ≡ None) ⊎ ((x : ℕ) × (f.parent z ≡ Some x) × Contains l x)
      at z l1 l2 e m None is = inl is
      at z l1 l2 e m (Some (x, b)) is =
          let up : f.parent z ≡ Some x = has.parents z ∙ ap above is in
          let (xs, k, _) = subst (IsUnder f l1) up m.under in
          let (front, e') = behind_has f l1 xs x k in
          inr (x, up, subst (λ q. Contains q x) (sym e) (Contains-append_left l1 (z ∷ l2) x (subst (λ q. Contains q x) (sym e') (Contains-append_right front (x ∷ xs) x (in_first x xs)))))
