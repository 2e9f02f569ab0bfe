-- A path of what is left leads through the whole program: between its points only parts that are taken out are passed.
use Rattle.std.proofs.Common.{◌≡◌, ◌↔◌, List, [], ◌∷◌, ◌++◌, ◌⊎◌, Option, Some, None, refl, sym, subst, inl, inr, Contains}
use Rattle.hpr_terms.specs.declared.tag.Tag.{Tag}
use Rattle.hpr_syntax.specs.Skeleton.{Skeleton, Point, enter, at, exit}
use Rattle.hpr_syntax.specs.Pairs.{Next, first_of, FollowsIn}
use Rattle.hpr_syntax.specs.Paths.{Path, one, step}
use Rattle.hpr_paths.proofs.Among.{Among, there, among_cons, among_left, among_right, among_append, among_contains, contains_among}
use Rattle.hpr_paths.proofs.Regions.{join}
use Rattle.hpr_prune.specs.Pruned.{Pruned, empty, act_kept, act_out, fork_kept, fork_out, round_kept, round_out, IsKept, Pairs}

-- the same marks of back edges
abbrev pub AllMarks : List (Option Tag) → List (Option Tag) → Type 0
AllMarks ms ns = (w : Tag) → Among (Some w) ms ↔ Among (Some w) ns

no_mark : (ms ns : List (Option Tag)) (m : Option Tag) → m ≡ None → AllMarks ms ns → AllMarks (m ∷ ms) ns
no_mark ms ns m e s w = ((λ h. go (among_cons h)), (λ h. there ((s w).1 h)))
  where
    go : (m ≡ Some w) ⊎ Among (Some w) ms → Among (Some w) ns
    go (inl q) = absurd cc
    go (inr h) = (s w).0 h

marks_joined : (ms ns us vs : List (Option Tag)) → AllMarks ms us → AllMarks ns vs → AllMarks (ms ++ ns) (us ++ vs)
marks_joined ms ns us vs s t w = ((λ h. go us vs (s w).0 (t w).0 (among_append ms ns h)), (λ h. go ms ns (s w).1 (t w).1 (among_append us vs h)))
  where
    go : {xs ys : List (Option Tag)} (zs rs : List (Option Tag)) → (Among (Some w) xs → Among (Some w) zs) → (Among (Some w) ys → Among (Some w) rs) → Among (Some w) xs ⊎ Among (Some w) ys → Among (Some w) (zs ++ rs)
    go zs rs f g (inl h) = among_left rs (f h)
    go zs rs f g (inr h) = among_right zs (g h)

module _ (Keeps : Tag → Type 0) (R : Point → Point → Option Tag → Type 0) where
  -- from y on to x, over parts alone that are taken out
  abbrev pub Comes : Next → Next → Type 0
  Comes y x = (y ≡ x) ⊎ ((¬ IsKept Keeps y.0) × (y.1 ≡ None) × ((ms : List (Option Tag)) × Path R (IsKept Keeps) y.0 x.0 ms × AllMarks ms (x.1 ∷ [])))

  abbrev pub Ways : Point → Next → Type 0
  Ways a x = (ms : List (Option Tag)) × Path R (IsKept Keeps) a x.0 ms × AllMarks ms (x.1 ∷ [])

  onward : (a : Point) (y x : Next) → R a y.0 y.1 → Comes y x → Ways a x
  onward a y x r (inl e) = subst (Ways a) e (y.1 ∷ [], one r, λ w. (λ h. h, λ h. h))
  onward a y x r (inr (n, m, (ms, p, s))) = (y.1 ∷ ms, step r n p, no_mark ms (x.1 ∷ []) y.1 m s)

  abbrev Inside : Skeleton → Next → Type 0
  Inside b n = (a : Point) (x : Next) → FollowsIn b n a x.0 x.1 → R a x.0 x.1

  passing : (t : Tag) (y x : Next) → ¬ Keeps t → R (at t) y.0 y.1 → Comes y x → Comes (at t, None) x
  passing t y x h r c = let w = onward (at t) y x r c in inr (h, refl, w)

  first_comes : {b b' : Skeleton} (r : Pruned Keeps b b') (n n' : Next) → Inside b n → Comes n n' → Comes (first_of b n) (first_of b' n')
  first_comes empty n n' f c = c
  first_comes (act_kept h r) n n' f c = inl refl
  first_comes (act_out {t = t} {k = k} {k' = k'} h r) n n' f c =
      passing t (first_of k n) (first_of k' n') h (f (at t) (first_of k n) (inl (refl, refl))) (first_comes r n n' (λ a x l. f a x (inr l)) c)
  first_comes (fork_kept h r s q) n n' f c = inl refl
  first_comes (fork_out {t = t} {b = b} {k = k} {k' = k'} h r s q) n n' f c =
      passing t (first_of b (first_of k n)) (first_of k' n') h (f (at t) (first_of b (first_of k n)) (inl (refl, inl refl)))
      (first_comes r (first_of k n) (first_of k' n') (λ a x l. f a x (inr (inl l))) (first_comes q n n' (λ a x l. f a x (inr (inr (inr l)))) c))
  first_comes (round_kept h r q) n n' f c = inl refl
  first_comes (round_out {t = t} {k = k} {k' = k'} h r q) n n' f c =
      passing t (first_of k n) (first_of k' n') h (f (at t) (first_of k n) (inl (refl, inr refl))) (first_comes q n n' (λ a x l. f a x (inr (inr l))) c)

  leading : (t : Tag) (a : Point) (z x y : Next) → a ≡ at t → z ≡ x → R (at t) y.0 y.1 → Comes y x → Ways a z
  leading t a z x y e i r c = subst (λ v. Ways v z) (sym e) (subst (Ways (at t)) (sym i) (onward (at t) y x r c))

  pub pair_up : {b b' : Skeleton} (r : Pruned Keeps b b') (n n' : Next) → Inside b n → Comes n n' → (a z : Point) (m : Option Tag) → FollowsIn b' n' a z m → Ways a (z, m)
  pair_up empty n n' f c a z m h = absurd h
  pair_up (act_kept {t = t} {k = k} {k' = k'} h r) n n' f c a z m (inl (e, i)) =
      leading t a (z, m) (first_of k' n') (first_of k n) e i (f (at t) (first_of k n) (inl (refl, refl))) (first_comes r n n' (λ u x l. f u x (inr l)) c)
  pair_up (act_kept h r) n n' f c a z m (inr i) = pair_up r n n' (λ u x l. f u x (inr l)) c a z m i
  pair_up (act_out h r) n n' f c a z m i = pair_up r n n' (λ u x l. f u x (inr l)) c a z m i
  pair_up (fork_kept {t = t} {b = b} {b' = b'} {k = k} {k' = k'} h r s q) n n' f c a z m (inl (e, inl i)) =
      leading t a (z, m) (first_of b' (first_of k' n')) (first_of b (first_of k n)) e i (f (at t) (first_of b (first_of k n)) (inl (refl, inl refl)))
      (first_comes r (first_of k n) (first_of k' n') (λ u x l. f u x (inr (inl l))) (first_comes q n n' (λ u x l. f u x (inr (inr (inr l)))) c))
  pair_up (fork_kept {t = t} {c = d} {c' = d'} {k = k} {k' = k'} h r s q) n n' f c a z m (inl (e, inr i)) =
      leading t a (z, m) (first_of d' (first_of k' n')) (first_of d (first_of k n)) e i (f (at t) (first_of d (first_of k n)) (inl (refl, inr refl)))
      (first_comes s (first_of k n) (first_of k' n') (λ u x l. f u x (inr (inr (inl l)))) (first_comes q n n' (λ u x l. f u x (inr (inr (inr l)))) c))
  pair_up (fork_kept {k = k} {k' = k'} h r s q) n n' f c a z m (inr (inl i)) =
      pair_up r (first_of k n) (first_of k' n') (λ u x l. f u x (inr (inl l))) (first_comes q n n' (λ u x l. f u x (inr (inr (inr l)))) c) a z m i
  pair_up (fork_kept {k = k} {k' = k'} h r s q) n n' f c a z m (inr (inr (inl i))) =
      pair_up s (first_of k n) (first_of k' n') (λ u x l. f u x (inr (inr (inl l)))) (first_comes q n n' (λ u x l. f u x (inr (inr (inr l)))) c) a z m i
  pair_up (fork_kept h r s q) n n' f c a z m (inr (inr (inr i))) = pair_up q n n' (λ u x l. f u x (inr (inr (inr l)))) c a z m i
  pair_up (fork_out h r s q) n n' f c a z m i = pair_up q n n' (λ u x l. f u x (inr (inr (inr l)))) c a z m i
  pair_up (round_kept {t = t} {b = b} {b' = b'} h r q) n n' f c a z m (inl (e, inl i)) =
      leading t a (z, m) (first_of b' (at t, Some t)) (first_of b (at t, Some t)) e i (f (at t) (first_of b (at t, Some t)) (inl (refl, inl refl)))
      (first_comes r (at t, Some t) (at t, Some t) (λ u x l. f u x (inr (inl l))) (inl refl))
  pair_up (round_kept {t = t} {k = k} {k' = k'} h r q) n n' f c a z m (inl (e, inr i)) =
      leading t a (z, m) (first_of k' n') (first_of k n) e i (f (at t) (first_of k n) (inl (refl, inr refl))) (first_comes q n n' (λ u x l. f u x (inr (inr l))) c)
  pair_up (round_kept {t = t} h r q) n n' f c a z m (inr (inl i)) = pair_up r (at t, Some t) (at t, Some t) (λ u x l. f u x (inr (inl l))) (inl refl) a z m i
  pair_up (round_kept h r q) n n' f c a z m (inr (inr i)) = pair_up q n n' (λ u x l. f u x (inr (inr l))) c a z m i
  pair_up (round_out h r q) n n' f c a z m i = pair_up q n n' (λ u x l. f u x (inr (inr l))) c a z m i

pub weaker : {P M : Type 0} {R : P → P → M → Type 0} {S T : P → Type 0} {a z : P} {ms : List M} → ((p : P) → T p → S p) → Path R S a z ms → Path R T a z ms
weaker f (one r) = one r
weaker f (step {b = b} r n q) = step r (λ h. n (f b h)) (weaker f q)

-- the last of the points between that stop, if one does
pub last_stop : {P M : Type 0} {R : P → P → M → Type 0} (Stops Kept : P → Type 0) → ((p : P) → Dec (Stops p)) → {a z : P} {ms : List M}
    → Path R (λ p. Stops p × Kept p) a z ms → Path R Stops a z ms ⊎ ((d : P) × (ns : List M) × Stops d × (¬ Kept d) × Path R Stops d z ns)
last_stop Stops Kept stops? (one r) = inl (one r)
last_stop {M = M} {R = R} Stops Kept stops? {z = z} (step {a = a} {b = b} {m = m} {ms = ms} r n q) = go (stops? b) (last_stop Stops Kept stops? q)
  where
    go : Dec (Stops b) → Path R Stops b z ms ⊎ ((d : _) × (ns : List M) × Stops d × (¬ Kept d) × Path R Stops d z ns)
        → Path R Stops a z (m ∷ ms) ⊎ ((d : _) × (ns : List M) × Stops d × (¬ Kept d) × Path R Stops d z ns)
    go d (inr x) = inr x
    go (yes s) (inl p) = inr (b, ms, s, (λ k. n (s, k)), p)
    go (no s) (inl p) = inl (step r s p)

module _ (Keeps : Tag → Type 0) {sk rest : Skeleton} (r : Pruned Keeps sk rest) where
  pairs_up : (a z : Point) (m : Option Tag) → Pairs rest a z m → Ways Keeps (Pairs sk) a (z, m)
  pairs_up a z m (inl (e, i)) =
      subst (λ v. Ways Keeps (Pairs sk) v (z, m)) (sym e) (subst (Ways Keeps (Pairs sk) enter) (sym i)
      (onward Keeps (Pairs sk) enter (first_of sk (exit, None)) (first_of rest (exit, None)) (inl (refl, refl)) (first_comes Keeps (Pairs sk) r (exit, None) (exit, None) (λ u x l. inr l) (inl refl))))
  pairs_up a z m (inr h) = pair_up Keeps (Pairs sk) r (exit, None) (exit, None) (λ u x l. inr l) (inl refl) a z m h

  module _ (Stops : Point → Type 0) where
    abbrev StopsKept : Point → Type 0
    StopsKept p = Stops p × IsKept Keeps p

    pub up : {a z : Point} {ns : List (Option Tag)} → Path (Pairs rest) Stops a z ns → (ms : List (Option Tag)) × Path (Pairs sk) StopsKept a z ms × AllMarks ms ns
    up (one {a = a} {z = z} {m = m} p) = let w = pairs_up a z m p in (w.0, weaker (λ q h. h.1) w.1, w.2)
    up (step {a = a} {b = b} {m = m} {ms = ns} p n q) =
        let w = pairs_up a b m p in let rec = up q in
        (w.0 ++ rec.0, join (weaker (λ q h. h.1) w.1) (λ h. n h.0) rec.1, marks_joined w.0 rec.0 (m ∷ []) ns w.2 rec.2)

    -- where no undisturbed path to z begins at a part that stops and is taken out
    pub path_up : ((p : Point) → Dec (Stops p)) → (a z : Point) (ns : List (Option Tag)) → Path (Pairs rest) Stops a z ns
        → ((d : Point) (ms : List (Option Tag)) → Stops d → Path (Pairs sk) Stops d z ms → IsKept Keeps d)
        → (ms : List (Option Tag)) × Path (Pairs sk) Stops a z ms × ((w : Tag) → Contains ms (Some w) ↔ Contains ns (Some w))
    path_up stops? a z ns p closed = go (last_stop Stops (IsKept Keeps) stops? (up p).1)
      where
        go : Path (Pairs sk) Stops a z (up p).0 ⊎ ((d : Point) × (ms : List (Option Tag)) × Stops d × (¬ IsKept Keeps d) × Path (Pairs sk) Stops d z ms)
            → (ms : List (Option Tag)) × Path (Pairs sk) Stops a z ms × ((w : Tag) → Contains ms (Some w) ↔ Contains ns (Some w))
        go (inl q) = ((up p).0, q, λ w. ((λ h. contains_among (Some w) ns (((up p).2 w).0 (among_contains (Some w) (up p).0 h))), (λ h. contains_among (Some w) (up p).0 (((up p).2 w).1 (among_contains (Some w) ns h)))))
        go (inr (d, ms, s, k, q)) = absurd (k (closed d ms s q))
