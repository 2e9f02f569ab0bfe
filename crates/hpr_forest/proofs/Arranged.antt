-- The arrangements are the trees of the whole orders, each once, in the same order.
use Rattle.std.proofs.Common.{◌≡◌, ℕ, ◌<◌, true, false, Some, None, List, [], ◌∷◌, ◌++◌, length, map, Contains, ◌⊎◌, inl, inr, refl, sym, ap, ◌∙◌, subst, arith}
use Rattle.std.proofs.lemmas.List.Elements.{Contains-append_left, Contains-append_right}
use Rattle.hpr_forest.specs.Choices.{IsWhole}
use Rattle.hpr_forest.specs.Lists.{LexLess, IsAscending, IsListOf}
use Rattle.hpr_forest.proofs.Unique.{in_none, in_cons, in_first, in_later}
use Rattle.hpr_forest.specs.Forest.{Forest, IsForest, can, bare}
use Rattle.hpr_forest.specs.Trees.{Tree, empty, node, preorder, Slot, above, StandsIn, HasSlots}
use Rattle.hpr_forest.specs.Lifted.{IsLifted, Respects}
use Rattle.hpr_forest.specs.ArrangedTrees.{IsArrangedTree, AndBlocks, Earlier}
use Rattle.hpr_forest.proofs.Members.{IsDistinct, is_in-true, split, has_all}
use Rattle.hpr_forest.proofs.May.{follows_once, follows_within}
use Rattle.hpr_forest.proofs.Lift.{lifted_respects, respects_lifted}
use Rattle.hpr_forest.proofs.Grow.{tree_of_order}
use Rattle.hpr_forest.proofs.Flat.{inside, some_same, slots_differ, once_left as left_once, once_right as right_once, steps_at, Steps, Placed, order_of_tree, whole_of_tree}

-- two ways to cut one list
line_up : (a b a' b' : List ℕ) → a ++ b ≡ a' ++ b'
    → ((a ≡ a') × (b ≡ b')) ⊎ (((h : ℕ) × (m : List ℕ) × (a' ≡ a ++ h ∷ m) × (b ≡ h ∷ (m ++ b'))) ⊎ ((h : ℕ) × (m : List ℕ) × (a ≡ a' ++ h ∷ m) × (b' ≡ h ∷ (m ++ b))))
line_up [] b [] b' e = inl (refl, e)
line_up [] b (h ∷ a') b' e = inr (inl (h, a', refl, e))
line_up (h ∷ a) b [] b' e = inr (inr (h, a, refl, sym e))
line_up (x ∷ a) b (x' ∷ a') b' e =
    let hd : x ≡ x' = cc in let tl : a ++ b ≡ a' ++ b' = cc in
    elim (line_up a b a' b' tl) [
      | inl same ↦ inl (ap (λ q. q ∷ a) hd ∙ ap (λ q. x' ∷ q) same.0, same.1)
      | inr (inl (h, m, k, k')) ↦ inr (inl (h, m, ap (λ q. q ∷ a') (sym hd) ∙ ap (λ q. x ∷ q) k, k'))
      | inr (inr (h, m, k, k')) ↦ inr (inr (h, m, ap (λ q. q ∷ a) hd ∙ ap (λ q. x' ∷ q) k, k'))
    ]

module _ (f : Forest) (it_ : IsForest f) (slot : ℕ → Slot) (parents : (x : ℕ) → f.parent x ≡ above (slot x)) where
  head_slot : (t : Tree) (v : Slot) (h : ℕ) (m : List ℕ) → StandsIn slot v t → preorder t ≡ h ∷ m → slot h ≡ v
  head_slot empty v h m s e = absurd (omega (arith, ap length e))
  head_slot (node c y n r) v h m s e = let same : c ≡ h = cc in subst (λ q. slot q ≡ v) same s.0

  head_two : (n r : Tree) (u v : Slot) (h : ℕ) (m : List ℕ) → StandsIn slot u n → StandsIn slot v r → preorder n ++ preorder r ≡ h ∷ m → (slot h ≡ u) ⊎ (slot h ≡ v)
  head_two empty r u v h m sn sr e = inr (head_slot r v h m sr e)
  head_two (node c a b d) r u v h m sn sr e = let same : c ≡ h = cc in inl (subst (λ q. slot q ≡ u) same sn.0)

  -- an item of a block can't stand in a slot of an item outside it
  foreign : (t : Tree) (u s : Slot) (h : ℕ) → StandsIn slot u t → Contains (preorder t) h → slot h ≡ s → (u ≡ s → ⊥) → ((w : ℕ) → above s ≡ Some w → Contains (preorder t) w → ⊥) → ⊥
  foreign t u s h st inn is other out = elim (inside f it_ slot parents t u h st inn) [
    | inl e ↦ other (sym e ∙ is)
    | inr (w, up, hw) ↦ out w (sym (ap above is) ∙ sym (parents h) ∙ up) hw
  ]

  differ : (c : ℕ) (u : Slot) → u ≡ Some (c, true) → u ≡ Some (c, false) → ⊥
  differ c u a b = slots_differ f it_ slot parents u c c a b

  clash_first : (y n r : Tree) (c : ℕ) (v : Slot) (h : ℕ) (m : List ℕ) → StandsIn slot (Some (c, true)) y → StandsIn slot (Some (c, false)) n → StandsIn slot v r
      → Contains (preorder y) h → preorder n ++ preorder r ≡ h ∷ m → (Contains (preorder y) c → ⊥)
      → ((w : ℕ) → above v ≡ Some w → Contains (preorder y) w → ⊥) → (above v ≡ Some c → ⊥) → ⊥
  clash_first y n r c v h m sy sn sr inn e not_c out not_v = elim (head_two n r (Some (c, false)) v h m sn sr e) [
    | inl is ↦ foreign y (Some (c, true)) (Some (c, false)) h sy inn is (λ k. differ c (Some (c, true)) refl k)
        (λ w k hw. not_c (subst (Contains (preorder y)) (sym (some_same f it_ slot parents c w k)) hw))
    | inr is ↦ foreign y (Some (c, true)) v h sy inn is (λ k. not_v (sym (ap above k))) out
  ]

  clash_second : (n r : Tree) (c : ℕ) (v : Slot) (h : ℕ) (m : List ℕ) → StandsIn slot (Some (c, false)) n → StandsIn slot v r
      → Contains (preorder n) h → preorder r ≡ h ∷ m → ((w : ℕ) → above v ≡ Some w → Contains (preorder n) w → ⊥) → (above v ≡ Some c → ⊥) → ⊥
  clash_second n r c v h m sn sr inn e out not_v =
      foreign n (Some (c, false)) v h sn inn (head_slot r v h m sr e) (λ k. not_v (sym (ap above k))) out

  -- a tree is known by its order
  pub same_tree : (t t' : Tree) (v : Slot) → StandsIn slot v t → StandsIn slot v t' → IsDistinct (preorder t) → ((w : ℕ) → above v ≡ Some w → Contains (preorder t) w → ⊥) → preorder t ≡ preorder t' → t ≡ t'
  same_tree empty empty v s s' once out e = refl
  same_tree empty (node c' y' n' r') v s s' once out e = absurd (omega (arith, ap length e))
  same_tree (node c y n r) empty v s s' once out e = absurd (omega (arith, ap length e))
  same_tree (node c y n r) (node c' y' n' r') v s s' once out e =
      let ys = preorder y in let ns = preorder n in let rs = preorder r in
      let ys' = preorder y' in let ns' = preorder n' in let rs' = preorder r' in
      let rest = ys ++ (ns ++ rs) in let rest' = ys' ++ (ns' ++ rs') in
      let hd : c ≡ c' = cc in
      let tl : rest ≡ rest' = cc in
      let sy' : StandsIn slot (Some (c, true)) y' = subst (λ q. StandsIn slot (Some (q, true)) y') (sym hd) s'.1 in
      let sn' : StandsIn slot (Some (c, false)) n' = subst (λ q. StandsIn slot (Some (q, false)) n') (sym hd) s'.2 in
      let not_v : above v ≡ Some c → ⊥ = λ k. out c k (in_first c rest) in
      let out_rest : (w : ℕ) → above v ≡ Some w → Contains rest w → ⊥ = λ w k h. out w k (in_later c w rest h) in
      let back : (w : ℕ) → Contains rest' w → Contains rest w = λ w h. subst (λ q. Contains q w) (sym tl) h in
      let iy : (z : ℕ) → Contains ys z → Contains rest z = λ z h. Contains-append_left ys (ns ++ rs) z h in
      let inn : (z : ℕ) → Contains ns z → Contains rest z = λ z h. Contains-append_right ys (ns ++ rs) z (Contains-append_left ns rs z h) in
      let ir : (z : ℕ) → Contains rs z → Contains rest z = λ z h. Contains-append_right ys (ns ++ rs) z (Contains-append_right ns rs z h) in
      let iy' : (z : ℕ) → Contains ys' z → Contains rest z = λ z h. back z (Contains-append_left ys' (ns' ++ rs') z h) in
      let inn' : (z : ℕ) → Contains ns' z → Contains rest z = λ z h. back z (Contains-append_right ys' (ns' ++ rs') z (Contains-append_left ns' rs' z h)) in
      let first : (ys ≡ ys') × (ns ++ rs ≡ ns' ++ rs') = elim (line_up ys (ns ++ rs) ys' (ns' ++ rs') tl) [
        | inl both ↦ both
        | inr (inl (h, m, k, k')) ↦ absurd (clash_first y' n r c v h (m ++ (ns' ++ rs')) sy' s.2 s.3
            (subst (λ q. Contains q h) (sym k) (Contains-append_right ys (h ∷ m) h (in_first h m))) k'
            (λ a. once.0 (iy' c a)) (λ w a b. out_rest w a (iy' w b)) not_v)
        | inr (inr (h, m, k, k')) ↦ absurd (clash_first y n' r' c v h (m ++ (ns ++ rs)) s.1 sn' s'.3
            (subst (λ q. Contains q h) (sym k) (Contains-append_right ys' (h ∷ m) h (in_first h m))) k'
            (λ a. once.0 (iy c a)) (λ w a b. out_rest w a (iy w b)) not_v)
      ] in
      let second : (ns ≡ ns') × (rs ≡ rs') = elim (line_up ns rs ns' rs' first.1) [
        | inl both ↦ both
        | inr (inl (h, m, k, k')) ↦ absurd (clash_second n' r c v h (m ++ rs') sn' s.3
            (subst (λ q. Contains q h) (sym k) (Contains-append_right ns (h ∷ m) h (in_first h m))) k' (λ w a b. out_rest w a (inn' w b)) not_v)
        | inr (inr (h, m, k, k')) ↦ absurd (clash_second n r' c v h (m ++ rs) s.2 s'.3
            (subst (λ q. Contains q h) (sym k) (Contains-append_right ns' (h ∷ m) h (in_first h m))) k' (λ w a b. out_rest w a (inn w b)) not_v)
      ] in
      let under_c : (ts : List ℕ) → ((z : ℕ) → Contains ts z → Contains rest z) → (w : ℕ) → Some c ≡ Some w → Contains ts w → ⊥ =
      λ ts sub w k h. once.0 (sub c (subst (Contains ts) (sym (some_same f it_ slot parents c w k)) h)) in
      let ty : y ≡ y' = same_tree y y' (Some (c, true)) s.1 sy' (left_once ys (ns ++ rs) once.1) (under_c ys iy) first.0 in
      let tn : n ≡ n' = same_tree n n' (Some (c, false)) s.2 sn' (left_once ns rs (right_once ys (ns ++ rs) once.1)) (under_c ns inn) second.0 in
      let tr : r ≡ r' = same_tree r r' v s.3 s'.3 (right_once ns rs (right_once ys (ns ++ rs) once.1)) (λ w a b. out_rest w a (ir w b)) second.1 in
      ap (λ q. node q y n r) hd ∙ ap (λ q. node c' q n r) ty ∙ ap (λ q. node c' y' q r) tn ∙ ap (λ q. node c' y' n' q) tr

contains_map : (ts : List Tree) (l : List ℕ) → Contains (map preorder ts) l → (t : Tree) × Contains ts t × (preorder t ≡ l)
contains_map [] l h = absurd (in_none l h)
contains_map (t ∷ ts) l h = elim (in_cons (preorder t) l (map preorder ts) h) [
  | inl e ↦ (t, in_first t ts, e)
  | inr later ↦ (let (t', h', e) = contains_map ts l later in (t', in_later t t' ts h', e))
]

map_contains : (ts : List Tree) (t : Tree) → Contains ts t → Contains (map preorder ts) (preorder t)
map_contains [] t h = absurd (in_none t h)
map_contains (u ∷ ts) t h = elim (in_cons u t ts h) [
  | inl e ↦ subst (λ q. Contains (map preorder (u ∷ ts)) (preorder q)) e (in_first (preorder u) (map preorder ts))
  | inr later ↦ in_later (preorder u) (preorder t) (map preorder ts) (map_contains ts t later)
]

map_ascending : (ts : List Tree) → IsAscending LexLess (map preorder ts) → IsAscending Earlier ts
map_ascending [] a = tt
map_ascending (t ∷ ts) a = ((λ u h. a.0 (preorder u) (map_contains ts u h)), map_ascending ts a.1)

module _ (f : Forest) (it : IsForest f) (it' : IsForest (bare f)) (slot : ℕ → Slot) (has : HasSlots f slot) (E : ℕ → ℕ → Type 0) (lift : IsLifted f (AndBlocks slot E)) where
  to_tree : (l : List ℕ) → IsWhole (can f) f.count l → (t : Tree) × (preorder t ≡ l) × IsArrangedTree f.count slot E t
  to_tree l w =
      let (t, e, stands) = tree_of_order f it slot has l w in
      let once : IsDistinct l = (follows_once f [] l w.follows).1 in
      let within : (x : ℕ) → Contains l x → x < f.count = follows_within f [] l w.follows in (
        t,
        e,
        record {
          stands = stands;
          len = ap length e ∙ w.len;
          once = subst IsDistinct (sym e) once;
          within = λ x h. within x (subst (λ q. Contains q x) e h);
          all = λ x h. subst (λ q. Contains q x) (sym e) (has_all f.count l once within w.len x h);
          respects = subst (Respects E) (sym e) (λ s u edge. lifted_respects f it (AndBlocks slot E) lift l w s u (inl edge));
        },
      )

  from_tree : (t : Tree) → IsArrangedTree f.count slot E t → IsWhole (can f) f.count (preorder t)
  from_tree t a = respects_lifted f it it' (AndBlocks slot E) lift (preorder t) (whole_of_tree f it slot has.parents t a.stands a.once a.within a.all a.len)
      (λ s u edge. elim edge [
        | inl e ↦ a.respects s u e
        | inr (x, is_s, is_u) ↦ (
            let up : f.parent u ≡ Some x = has.parents u ∙ ap above is_u in
            let here : Contains (preorder t) u = a.all u (it.down x u (is_in-true (f.children x) u (it.up x u up))).0 in
            let (l1, l2, e) = split (preorder t) u here in
            let placed = steps_at (Placed f it slot has.parents) [] l1 l2 u
            (subst (Steps (Placed f it slot has.parents) []) e (order_of_tree f it slot has.parents t a.stands a.once a.within a.all)) in
            inr (l1, l2, e, placed.labels s x is_u is_s))
      ])

  trees : (orders : List (List ℕ)) → ((l : List ℕ) → Contains orders l → IsWhole (can f) f.count l)
      → (ts : List Tree) × (map preorder ts ≡ orders) × ((t : Tree) → Contains ts t → IsArrangedTree f.count slot E t)
  trees [] ok = ([], refl, λ t h. absurd (in_none t h))
  trees (l ∷ orders) ok =
      let (t, e, a) = to_tree l (ok l (in_first l orders)) in
      let (ts, es, as_) = trees orders (λ k h. ok k (in_later l k orders h)) in
      (t ∷ ts, ap (λ q. q ∷ map preorder ts) e ∙ ap (λ q. l ∷ q) es, λ u h. elim (in_cons t u ts h) [ inl same ↦ subst (IsArrangedTree f.count slot E) same a | inr later ↦ as_ u later ])

  -- from the list of the whole orders the list of the arrangements
  pub arranged : (orders : List (List ℕ)) → IsListOf LexLess (IsWhole (can f) f.count) orders
      → (ts : List Tree) × (map preorder ts ≡ orders) × IsListOf Earlier (IsArrangedTree f.count slot E) ts
  arranged orders list =
      let (ts, es, ok) = trees orders list.sound in (
        ts,
        es,
        record {
          sound = ok;
          complete = λ t a.
              let (u, h, e) = contains_map ts (preorder t) (subst (λ q. Contains q (preorder t)) (sym es) (list.complete (preorder t) (from_tree t a))) in
              let au = ok u h in
              subst (Contains ts) (same_tree f it slot has.parents u t None au.stands a.stands au.once (λ w k hw. absurd cc) e) h;
          ascending = map_ascending ts (subst (IsAscending LexLess) (sym es) list.ascending);
        },
      )
