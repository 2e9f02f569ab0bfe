-- A path between two points that are left is a path of what is left.
use Rattle.std.proofs.Common.{◌≡◌, ◌↔◌, List, [], ◌∷◌, ◌⊎◌, Option, Some, None, refl, ap, sym, subst, ◌∙◌, inl, inr, Contains}
use Rattle.hpr_terms.specs.declared.tag.Tag.{Tag}
use Rattle.hpr_syntax.specs.Skeleton.{Skeleton, nil, act, fork, round, Point, at, exit, Distinct}
use Rattle.hpr_syntax.specs.Pairs.{Next, first_of, FollowsIn}
use Rattle.hpr_syntax.specs.Paths.{Path, one, step}
use Rattle.hpr_paths.proofs.Among.{Among, here, there, among_cons, among_contains, contains_among}
use Rattle.hpr_prune.specs.Pruned.{Pruned, empty, act_kept, act_out, fork_kept, fork_out, round_kept, round_out, IsKept, Pairs}
use Rattle.hpr_prune.proofs.Leads.{LeadsOn, leads_left}
use Rattle.hpr_prune.proofs.Once.{leads_once}

module _ (Keeps : Tag → Type 0) where
  -- the way to a part that is taken out is no back edge to a loop that is kept
  abbrev IsPassed : Option Tag → Type 0
  IsPassed None = Unit {0}
  IsPassed (Some w) = ¬ Keeps w

  module _ (Leads : Point → Next → Type 0) where
    abbrev pub Becomes : Next → Next → Type 0
    Becomes n x = (IsKept Keeps n.0 × (n ≡ x)) ⊎ (Leads n.0 x × IsPassed n.1)

    abbrev Inside : {b b' : Skeleton} → Pruned Keeps b b' → Next → Type 0
    Inside r n = (a : Point) (x : Next) → LeadsOn Keeps r n a x → Leads a x

    first_becomes : {b b' : Skeleton} (r : Pruned Keeps b b') (n n' : Next) → Inside r n' → Becomes n n' → Becomes (first_of b n) (first_of b' n')
    first_becomes empty n n' f g = g
    first_becomes (act_kept h r) n n' f g = inl (h, refl)
    first_becomes (act_out {t = t} {k' = k'} h r) n n' f g = inr (f (at t) (first_of k' n') (inl (refl, refl)), tt)
    first_becomes (fork_kept h r s q) n n' f g = inl (h, refl)
    first_becomes (fork_out {t = t} {k' = k'} h r s q) n n' f g = inr (f (at t) (first_of k' n') (inl (refl, refl)), tt)
    first_becomes (round_kept h r q) n n' f g = inl (h, refl)
    first_becomes (round_out {t = t} {k' = k'} h r q) n n' f g = inr (f (at t) (first_of k' n') (inl (refl, refl)), tt)

    abbrev pub Follows : Skeleton → Next → Point → Next → Type 0
    Follows b' n' a z = (x : Next) × Becomes z x × ((IsKept Keeps a × FollowsIn b' n' a x.0 x.1) ⊎ Leads a x)

    outward : (b b' : Skeleton) (n n' : Next) (a : Point) (z : Next) → ((x : Next) → FollowsIn b n a x.0 x.1 → FollowsIn b' n' a x.0 x.1) → Follows b n a z → Follows b' n' a z
    outward b b' n n' a z f (x, e, inl (i, g)) = (x, e, inl (i, f x g))
    outward b b' n n' a z f (x, e, inr l) = (x, e, inr l)

    pub follows : {b b' : Skeleton} (r : Pruned Keeps b b') (n n' : Next) → Inside r n' → Becomes n n' → (a z : Point) (m : Option Tag) → FollowsIn b n a z m → Follows b' n' a (z, m)
    follows empty n n' f g a z m h = absurd h
    follows (act_kept {t = t} {k = k} {k' = k'} h r) n n' f g a z m (inl (e, i)) =
        (first_of k' n', subst (λ y. Becomes y (first_of k' n')) (sym i) (first_becomes r n n' f g), inl (subst (IsKept Keeps) (sym e) h, inl (e, refl)))
    follows (act_kept {t = t} {k' = k'} h r) n n' f g a z m (inr i) = outward k' (act t k') n' n' a (z, m) (λ x y. inr y) (follows r n n' f g a z m i)
    follows (act_out {k' = k'} h r) n n' f g a z m (inl (e, i)) =
        (first_of k' n', subst (λ y. Becomes y (first_of k' n')) (sym i) (first_becomes r n n' (λ u x l. f u x (inr l)) g), inr (f a (first_of k' n') (inl (e, refl))))
    follows (act_out h r) n n' f g a z m (inr i) = follows r n n' (λ u x l. f u x (inr l)) g a z m i
    follows (fork_kept {b' = b'} {k = k} {k' = k'} h r s q) n n' f g a z m (inl (e, inl i)) = (
      first_of b' (first_of k' n'),
      subst (λ y. Becomes y (first_of b' (first_of k' n'))) (sym i)
          (first_becomes r (first_of k n) (first_of k' n') (λ u x l. f u x (inl l)) (first_becomes q n n' (λ u x l. f u x (inr (inr l))) g)),
      inl (subst (IsKept Keeps) (sym e) h, inl (e, inl refl)),
    )
    follows (fork_kept {c' = c'} {k = k} {k' = k'} h r s q) n n' f g a z m (inl (e, inr i)) = (
      first_of c' (first_of k' n'),
      subst (λ y. Becomes y (first_of c' (first_of k' n'))) (sym i)
          (first_becomes s (first_of k n) (first_of k' n') (λ u x l. f u x (inr (inl l))) (first_becomes q n n' (λ u x l. f u x (inr (inr l))) g)),
      inl (subst (IsKept Keeps) (sym e) h, inl (e, inr refl)),
    )
    follows (fork_kept {t = t} {b' = b'} {c' = c'} {k = k} {k' = k'} h r s q) n n' f g a z m (inr (inl i)) =
        outward b' (fork t b' c' k') (first_of k' n') n' a (z, m) (λ x y. inr (inl y))
        (follows r (first_of k n) (first_of k' n') (λ u x l. f u x (inl l)) (first_becomes q n n' (λ u x l. f u x (inr (inr l))) g) a z m i)
    follows (fork_kept {t = t} {b' = b'} {c' = c'} {k = k} {k' = k'} h r s q) n n' f g a z m (inr (inr (inl i))) =
        outward c' (fork t b' c' k') (first_of k' n') n' a (z, m) (λ x y. inr (inr (inl y)))
        (follows s (first_of k n) (first_of k' n') (λ u x l. f u x (inr (inl l))) (first_becomes q n n' (λ u x l. f u x (inr (inr l))) g) a z m i)
    follows (fork_kept {t = t} {b' = b'} {c' = c'} {k' = k'} h r s q) n n' f g a z m (inr (inr (inr i))) =
        outward k' (fork t b' c' k') n' n' a (z, m) (λ x y. inr (inr (inr y))) (follows q n n' (λ u x l. f u x (inr (inr l))) g a z m i)
    follows (fork_out {k = k} {k' = k'} h r s q) n n' f g a z m (inl (e, inl i)) = (
      first_of k' n',
      subst (λ y. Becomes y (first_of k' n')) (sym i)
          (first_becomes r (first_of k n) (first_of k' n') (λ u x l. f u x (inr (inl l))) (first_becomes q n n' (λ u x l. f u x (inr (inr (inr l)))) g)),
      inr (f a (first_of k' n') (inl (e, refl))),
    )
    follows (fork_out {k = k} {k' = k'} h r s q) n n' f g a z m (inl (e, inr i)) = (
      first_of k' n',
      subst (λ y. Becomes y (first_of k' n')) (sym i)
          (first_becomes s (first_of k n) (first_of k' n') (λ u x l. f u x (inr (inr (inl l)))) (first_becomes q n n' (λ u x l. f u x (inr (inr (inr l)))) g)),
      inr (f a (first_of k' n') (inl (e, refl))),
    )
    follows (fork_out {k = k} {k' = k'} h r s q) n n' f g a z m (inr (inl i)) =
        outward nil k' (first_of k' n') n' a (z, m) (λ x y. absurd y)
        (follows r (first_of k n) (first_of k' n') (λ u x l. f u x (inr (inl l))) (first_becomes q n n' (λ u x l. f u x (inr (inr (inr l)))) g) a z m i)
    follows (fork_out {k = k} {k' = k'} h r s q) n n' f g a z m (inr (inr (inl i))) =
        outward nil k' (first_of k' n') n' a (z, m) (λ x y. absurd y)
        (follows s (first_of k n) (first_of k' n') (λ u x l. f u x (inr (inr (inl l)))) (first_becomes q n n' (λ u x l. f u x (inr (inr (inr l)))) g) a z m i)
    follows (fork_out h r s q) n n' f g a z m (inr (inr (inr i))) = follows q n n' (λ u x l. f u x (inr (inr (inr l)))) g a z m i
    follows (round_kept {t = t} {b' = b'} h r q) n n' f g a z m (inl (e, inl i)) = (
      first_of b' (at t, Some t),
      subst (λ y. Becomes y (first_of b' (at t, Some t))) (sym i) (first_becomes r (at t, Some t) (at t, Some t) (λ u x l. f u x (inl l)) (inl (h, refl))),
      inl (subst (IsKept Keeps) (sym e) h, inl (e, inl refl)),
    )
    follows (round_kept {k' = k'} h r q) n n' f g a z m (inl (e, inr i)) = (
      first_of k' n',
      subst (λ y. Becomes y (first_of k' n')) (sym i) (first_becomes q n n' (λ u x l. f u x (inr l)) g),
      inl (subst (IsKept Keeps) (sym e) h, inl (e, inr refl)),
    )
    follows (round_kept {t = t} {b' = b'} {k' = k'} h r q) n n' f g a z m (inr (inl i)) =
        outward b' (round t b' k') (at t, Some t) n' a (z, m) (λ x y. inr (inl y))
        (follows r (at t, Some t) (at t, Some t) (λ u x l. f u x (inl l)) (inl (h, refl)) a z m i)
    follows (round_kept {t = t} {b' = b'} {k' = k'} h r q) n n' f g a z m (inr (inr i)) =
        outward k' (round t b' k') n' n' a (z, m) (λ x y. inr (inr y)) (follows q n n' (λ u x l. f u x (inr l)) g a z m i)
    follows (round_out {t = t} {k' = k'} h r q) n n' f g a z m (inl (e, inl i)) = (
      first_of k' n',
      subst (λ y. Becomes y (first_of k' n')) (sym i)
          (first_becomes r (at t, Some t) (first_of k' n') (λ u x l. f u x (inr (inl l))) (inr (f (at t) (first_of k' n') (inl (refl, refl)), h))),
      inr (f a (first_of k' n') (inl (e, refl))),
    )
    follows (round_out {k' = k'} h r q) n n' f g a z m (inl (e, inr i)) =
        (first_of k' n', subst (λ y. Becomes y (first_of k' n')) (sym i) (first_becomes q n n' (λ u x l. f u x (inr (inr l))) g), inr (f a (first_of k' n') (inl (e, refl))))
    follows (round_out {t = t} {k' = k'} h r q) n n' f g a z m (inr (inl i)) =
        outward nil k' (first_of k' n') n' a (z, m) (λ x y. absurd y)
        (follows r (at t, Some t) (first_of k' n') (λ u x l. f u x (inr (inl l))) (inr (f (at t) (first_of k' n') (inl (refl, refl)), h)) a z m i)
    follows (round_out h r q) n n' f g a z m (inr (inr i)) = follows q n n' (λ u x l. f u x (inr (inr l))) g a z m i

  module _ {sk rest : Skeleton} (r : Pruned Keeps sk rest) (di : Distinct sk) where
    abbrev Leads : Point → Next → Type 0
    Leads a x = LeadsOn Keeps r (exit, None) a x

    abbrev FollowsAll : Point → Next → Type 0
    FollowsAll a z = (x : Next) × Becomes Leads z x × ((IsKept Keeps a × Pairs rest a x.0 x.1) ⊎ Leads a x)

    pair_follows : (a z : Point) (m : Option Tag) → Pairs sk a z m → FollowsAll a (z, m)
    pair_follows a z m (inl (e, i)) = (
      first_of rest (exit, None),
      subst (λ y. Becomes Leads y (first_of rest (exit, None))) (sym i) (first_becomes Leads r (exit, None) (exit, None) (λ u x l. l) (inl (tt, refl))),
      inl (subst (IsKept Keeps) (sym e) tt, inl (e, refl)),
    )
    pair_follows a z m (inr h) = go (follows Leads r (exit, None) (exit, None) (λ u x l. l) (inl (tt, refl)) a z m h)
      where
        go : Follows Leads rest (exit, None) a (z, m) → FollowsAll a (z, m)
        go (x, e, inl (i, g)) = (x, e, inl (i, inr g))
        go (x, e, inr l) = (x, e, inr l)

    -- the same back edges to the loops that are kept
    abbrev pub SameMarks : List (Option Tag) → List (Option Tag) → Type 0
    SameMarks ms ns = (w : Tag) → Keeps w → Among (Some w) ms ↔ Among (Some w) ns

    same_first : (m : Option Tag) (ms ns : List (Option Tag)) → SameMarks ms ns → SameMarks (m ∷ ms) (m ∷ ns)
    same_first m ms ns s w k = (λ h. go ns (s w k).0 (among_cons h), λ h. go ms (s w k).1 (among_cons h))
      where
        go : {us : List (Option Tag)} (vs : List (Option Tag)) → (Among (Some w) us → Among (Some w) vs) → (m ≡ Some w) ⊎ Among (Some w) us → Among (Some w) (m ∷ vs)
        go vs f (inl e) = subst (λ y. Among y (m ∷ vs)) e here
        go vs f (inr h) = there (f h)

    passed_first : (m : Option Tag) (ms ns : List (Option Tag)) → IsPassed m → SameMarks ms ns → SameMarks (m ∷ ms) ns
    passed_first m ms ns p s w k = (λ h. go m p (among_cons h), λ h. there ((s w k).1 h))
      where
        go : (m : Option Tag) → IsPassed m → (m ≡ Some w) ⊎ Among (Some w) ms → Among (Some w) ns
        go m p (inr h) = (s w k).0 h
        go None p (inl e) = absurd cc
        go (Some v) p (inl e) = absurd (subst IsPassed e p k)

    module _ (Stops : Point → Type 0) (z : Point) (zk : IsKept Keeps z) where
      abbrev FromKept : Point → List (Option Tag) → Type 0
      FromKept a ms = (ns : List (Option Tag)) × Path (Pairs rest) Stops a z ns × SameMarks ms ns

      -- from a part that is taken out, on from what follows it in what is left
      abbrev FromNext : Next → List (Option Tag) → Type 0
      FromNext x ms = (ns : List (Option Tag)) × (((x.0 ≡ z) × (ns ≡ [])) ⊎ ((¬ Stops x.0) × Path (Pairs rest) Stops x.0 z ns)) × SameMarks ms (x.1 ∷ ns)

      abbrev Both : Point → List (Option Tag) → Type 0
      Both a ms = (IsKept Keeps a → FromKept a ms) × ((x : Next) → Leads a x → FromNext x ms)

      once : (a : Point) (x y : Next) → Leads a x → Leads a y → x ≡ y
      once a x y l m = leads_once Keeps r di (exit, None) a x y l m

      ahead : (a : Point) (x : Next) (ms : List (Option Tag)) → Pairs rest a x.0 x.1 → FromNext x ms → FromKept a ms
      ahead a x ms p (ns, inl (e, i), s) = (
        x.1 ∷ [],
        subst (λ y. Path (Pairs rest) Stops a y (x.1 ∷ [])) e (one p),
        subst (λ l. SameMarks ms (x.1 ∷ l)) i s,
      )
      ahead a x ms p (ns, inr (q, w), s) = (x.1 ∷ ns, step p q w, s)

      here_next : (b : Point) (m : Option Tag) (x : Next) → Becomes Leads (b, m) x → b ≡ z → FromNext x (m ∷ [])
      here_next b m x (inl (i, e)) at_z = ([], inl (sym (ap (λ (y : Next). y.0) e) ∙ at_z, refl), subst (λ y. SameMarks (m ∷ []) (y.1 ∷ [])) e (λ w k. (λ h. h, λ h. h)))
      here_next b m x (inr (l, p)) at_z = absurd (leads_left Keeps r (exit, None) b x l (subst (IsKept Keeps) (sym at_z) zk))

      there_next : (b : Point) (m : Option Tag) (x : Next) (ms : List (Option Tag)) → Becomes Leads (b, m) x → ¬ Stops b → Both b ms → FromNext x (m ∷ ms)
      there_next b m x ms (inl (i, e)) ns (f, g) =
          let k = f i in subst (λ y. FromNext y (m ∷ ms)) e (k.0, inr (ns, k.1), same_first m ms k.0 k.2)
      there_next b m x ms (inr (l, p)) ns (f, g) =
          let k = g x l in (k.0, k.1, passed_first m ms (x.1 ∷ k.0) p k.2)

      both_by : (a : Point) (b : Next) (ms : List (Option Tag)) → FollowsAll a b → ((x : Next) → Becomes Leads b x → FromNext x ms) → Both a ms
      both_by a b ms (x, e, inl (i, p)) f = ((λ _. ahead a x ms p (f x e)), (λ y l. absurd (leads_left Keeps r (exit, None) a y l i)))
      both_by a b ms (x, e, inr l) f =
          ((λ i. absurd (leads_left Keeps r (exit, None) a x l i)), (λ y k. subst (λ v. FromNext v ms) (once a x y l k) (f x e)))

      pub down : (a : Point) (ms : List (Option Tag)) → (y : Point) → y ≡ z → Path (Pairs sk) Stops a y ms → Both a ms
      down a _ y e (one {m = m} p) = both_by a (y, m) (m ∷ []) (pair_follows a y m p) (λ x b. here_next y m x b e)
      down a _ y e (step {b = c} {m = m} {ms = ms} p ns q) =
          let rec = down c ms y e q in both_by a (c, m) (m ∷ ms) (pair_follows a c m p) (λ x b. there_next c m x ms b ns rec)

      pub path_down : (a : Point) (ms : List (Option Tag)) → IsKept Keeps a → Path (Pairs sk) Stops a z ms
          → (ns : List (Option Tag)) × Path (Pairs rest) Stops a z ns × ((w : Tag) → Keeps w → Contains ms (Some w) ↔ Contains ns (Some w))
      path_down a ms ak p = (k.0, k.1, λ w kw. ((λ h. contains_among (Some w) k.0 ((k.2 w kw).0 (among_contains (Some w) ms h))), (λ h. contains_among (Some w) ms ((k.2 w kw).1 (among_contains (Some w) k.0 h)))))
        where
          k : FromKept a ms
          k = (down a ms z refl p).0 ak
