-- Whether a path leads from one point to another is decided, where its steps are listed.
use Rattle.std.proofs.Common.{◌≡◌, ◌↔◌, ◌⊎◌, inl, inr, List, [], ◌∷◌, ◌++◌, Contains, refl, sym, ap, subst}
use Rattle.std.proofs.lemmas.List.Elements.{Contains-append_right}
use Rattle.hpr_syntax.specs.Paths.{Path, one, step}
use Rattle.hpr_paths.proofs.Regions.{join}
use Rattle.hpr_terms.proofs.Facts.{in_none, in_cons, in_here, in_later}
use Rattle.hpr_closure.proofs.Decided.{Decided, both}
use Rattle.hpr_closure.proofs.Decisions.{denied, either, turned, some_decided}

module _ {P M : Type 0} (Stops : P → Type 0) (Good : M → Type 0) where
  -- a step: where it begins, where it ends, and its mark
  abbrev Hop : Type 0
  Hop = P × (P × M)

  abbrev By : List Hop → P → P → M → Type 0
  By ss a z m = Contains ss (a, (z, m)) × Good m

  abbrev Way : List Hop → P → P → Type 0
  Way ss a z = (ms : List M) × Path (By ss) Stops a z ms

  abbrev Until : List Hop → P → P → Type 0
  Until ss a p = (a ≡ p) ⊎ (Way ss a p × ¬ Stops p)

  abbrev From : List Hop → P → P → Type 0
  From ss q z = (q ≡ z) ⊎ ((¬ Stops q) × Way ss q z)

  abbrev Over : Hop → List Hop → P → P → Type 0
  Over f ss a z = Good f.1.1 × Until ss a f.0 × From ss f.1.0 z

  later_path : (f : Hop) (ss : List Hop) (a z : P) (ms : List M) → Path (By ss) Stops a z ms → Path (By (f ∷ ss)) Stops a z ms
  later_path f ss a z _ (one {m = m} (h, good)) = one (in_later f (a, (z, m)) ss h, good)
  later_path f ss a z _ (step {b = b} {m = m} {ms = ms} (h, good) nb rest) = step (in_later f (a, (b, m)) ss h, good) nb (later_path f ss b z ms rest)

  -- one more step in front
  sooner : (ss : List Hop) (a b p : P) (m : M) → By ss a b m → ¬ Stops b → Until ss b p → Until ss a p
  sooner ss a b p m r nb (inl same) = inr ((m ∷ [], one (subst (λ (q : P). By ss a q m) same r)), subst (λ (q : P). ¬ Stops q) same nb)
  sooner ss a b p m r nb (inr ((ms, w), n)) = inr ((m ∷ ms, step r nb w), n)

  split_one : (f : Hop) (ss : List Hop) (a z : P) (m : M) → Good m → (f ≡ (a, (z, m))) ⊎ Contains ss (a, (z, m)) → Way ss a z ⊎ Over f ss a z
  split_one f ss a z m good (inl same) =
      inr (subst Good (sym (ap (λ (s : Hop). s.1.1) same)) good, inl (sym (ap (λ (s : Hop). s.0) same)), inl (ap (λ (s : Hop). s.1.0) same))
  split_one f ss a z m good (inr later) = inl (m ∷ [], one (later, good))

  split_step : (f : Hop) (ss : List Hop) (a b z : P) (m : M) → Good m → (f ≡ (a, (b, m))) ⊎ Contains ss (a, (b, m)) → ¬ Stops b → Way ss b z ⊎ Over f ss b z → Way ss a z ⊎ Over f ss a z
  split_step f ss a b z m good (inl same) nb (inl w) =
      let end : b ≡ f.1.0 = sym (ap (λ (s : Hop). s.1.0) same) in
      inr (
        subst Good (sym (ap (λ (s : Hop). s.1.1) same)) good,
        inl (sym (ap (λ (s : Hop). s.0) same)),
        inr (subst (λ (q : P). ¬ Stops q) end nb, subst (λ (q : P). Way ss q z) end w),
      )
  split_step f ss a b z m good (inl same) nb (inr (g, until, from)) = inr (g, inl (sym (ap (λ (s : Hop). s.0) same)), from)
  split_step f ss a b z m good (inr later) nb (inl (ms, w)) = inl (m ∷ ms, step (later, good) nb w)
  split_step f ss a b z m good (inr later) nb (inr (g, until, from)) = inr (g, sooner ss a b f.0 m (later, good) nb until, from)

  -- a path takes the first step or it doesn't
  split : (f : Hop) (ss : List Hop) (a z : P) (ms : List M) → Path (By (f ∷ ss)) Stops a z ms → Way ss a z ⊎ Over f ss a z
  split f ss a z _ (one {m = m} (h, good)) = split_one f ss a z m good (in_cons f (a, (z, m)) ss h)
  split f ss a z _ (step {b = b} {m = m} {ms = ms} (h, good) nb rest) =
      split_step f ss a b z m good (in_cons f (a, (b, m)) ss h) nb (split f ss b z ms rest)

  -- with a step between
  onward : (ss : List Hop) (p q z : P) (m : M) → By ss p q m → From ss q z → Way ss p z
  onward ss p q z m r (inl same) = (m ∷ [], one (subst (λ (x : P). By ss p x m) same r))
  onward ss p q z m r (inr (n, (ms, w))) = (m ∷ ms, step r n w)

  after : (ss : List Hop) (a p z : P) → Until ss a p → Way ss p z → Way ss a z
  after ss a p z (inl same) w = subst (λ (x : P). Way ss x z) (sym same) w
  after ss a p z (inr ((ms, v), n)) (ns, w) = (ms ++ ns, join v n w)

  until_later : (f : Hop) (ss : List Hop) (a p : P) → Until ss a p → Until (f ∷ ss) a p
  until_later f ss a p (inl same) = inl same
  until_later f ss a p (inr ((ms, w), n)) = inr ((ms, later_path f ss a p ms w), n)

  from_later : (f : Hop) (ss : List Hop) (q z : P) → From ss q z → From (f ∷ ss) q z
  from_later f ss q z (inl same) = inl same
  from_later f ss q z (inr (n, (ms, w))) = inr (n, (ms, later_path f ss q z ms w))

  over_way : (f : Hop) (ss : List Hop) (a z : P) → Over f ss a z → Way (f ∷ ss) a z
  over_way f ss a z (good, until, from) =
      after (f ∷ ss) a f.0 z (until_later f ss a f.0 until) (onward (f ∷ ss) f.0 f.1.0 z f.1.1 (in_here f ss, good) (from_later f ss f.1.0 z from))

  none : (a z : P) (ms : List M) → Path (By []) Stops a z ms → ⊥
  none a z _ (one {m = m} (h, good)) = in_none (a, (z, m)) h
  none a z _ (step {b = b} {m = m} (h, good) nb rest) = in_none (a, (b, m)) h

  module _ (same? : (p q : P) → Decided (p ≡ q)) (stops : (p : P) → Decided (Stops p)) (good : (m : M) → Decided (Good m)) where
    until_by : (ss : List Hop) (a p : P) → Decided (Way ss a p) → Decided (Until ss a p)
    until_by ss a p way = either (a ≡ p) (Way ss a p × ¬ Stops p) (same? a p) (both (Way ss a p) (¬ Stops p) way (denied (Stops p) (stops p)))

    from_by : (ss : List Hop) (q z : P) → Decided (Way ss q z) → Decided (From ss q z)
    from_by ss q z way = either (q ≡ z) ((¬ Stops q) × Way ss q z) (same? q z) (both (¬ Stops q) (Way ss q z) (denied (Stops q) (stops q)) way)

    over_by : (f : Hop) (ss : List Hop) (a z : P) → Decided (Way ss a f.0) → Decided (Way ss f.1.0 z) → Decided (Over f ss a z)
    over_by f ss a z before behind =
        turned (Good f.1.1 × (Until ss a f.0 × From ss f.1.0 z)) (Over f ss a z) (λ (g, (u, h)). (g, u, h)) (λ (g, u, h). (g, (u, h)))
        (both (Good f.1.1) (Until ss a f.0 × From ss f.1.0 z) (good f.1.1) (both (Until ss a f.0) (From ss f.1.0 z) (until_by ss a f.0 before) (from_by ss f.1.0 z behind)))

    pub way_decided : (ss : List Hop) (a z : P) → Decided (Way ss a z)
    way_decided [] a z = inr (λ (ms, w). none a z ms w)
    way_decided (f ∷ ss) a z = elim (way_decided ss a z) [
      | inl (ms, w) ↦ inl (ms, later_path f ss a z ms w)
      | inr far ↦ elim (over_by f ss a z (way_decided ss a f.0) (way_decided ss f.1.0 z)) [
        | inl over ↦ inl (over_way f ss a z over)
        | inr round ↦ inr (λ (ms, w). elim (split f ss a z ms w) [ inl old ↦ far old | inr over ↦ round over ])
      ]
    ]

    -- paths of a relation whose steps are listed
    module _ (R : P → P → M → Type 0) (ss : List Hop) (exact : (a z : P) (m : M) → R a z m ↔ Contains ss (a, (z, m))) where
      abbrev AllGood : List M → Type 0
      AllGood ms = (m : M) → Contains ms m → Good m

      by_good : (a z : P) (ms : List M) → Path R Stops a z ms → AllGood ms → Path (By ss) Stops a z ms
      by_good a z _ (one {m = m} r) all = one ((exact a z m).0 r, all m (in_here m []))
      by_good a z _ (step {b = b} {m = m} {ms = ms} r nb rest) all =
          step ((exact a b m).0 r, all m (in_here m ms)) nb (by_good b z ms rest (λ k h. all k (in_later m k ms h)))

      good_by : (a z : P) (ms : List M) → Path (By ss) Stops a z ms → Path R Stops a z ms × AllGood ms
      good_by a z _ (one {m = m} (h, g)) = (one ((exact a z m).1 h), λ k l. elim (in_cons m k [] l) [ inl same ↦ subst Good same g | inr later ↦ absurd (in_none k later) ])
      good_by a z _ (step {b = b} {m = m} {ms = ms} (h, g) nb rest) =
          let (path, all) = good_by b z ms rest in
          (step ((exact a b m).1 h) nb path, λ k l. elim (in_cons m k ms l) [ inl same ↦ subst Good same g | inr later ↦ all k later ])

      pub path_decided : (a z : P) → Decided ((ms : List M) × Path R Stops a z ms × AllGood ms)
      path_decided a z =
          turned (Way ss a z) ((ms : List M) × Path R Stops a z ms × AllGood ms)
          (λ (ms, w). (let (path, all) = good_by a z ms w in (ms, path, all))) (λ (ms, path, all). (ms, by_good a z ms path all))
          (way_decided ss a z)

      -- and paths with a mark, where all marks are good
      module _ (any : (m : M) → Good m) (mark : M) (same_mark : (m : M) → Decided (m ≡ mark)) where
        abbrev Marked : P → P → Type 0
        Marked a z = (ms : List M) × Path R Stops a z ms × Contains ms mark

        abbrev Passing : P → P → Hop → Type 0
        Passing a z f = (f.1.1 ≡ mark) × Until ss a f.0 × From ss f.1.0 z

        abbrev Passes : P → P → Type 0
        Passes a z = (f : Hop) × Contains ss f × Passing a z f

        passing_first : (a z : P) (m : M) → m ≡ mark → R a z m → Passes a z
        passing_first a z m is r = ((a, (z, m)), (exact a z m).0 r, (is, inl refl, inl refl))

        passing_step : (a b z : P) (m : M) (ms : List M) → R a b m → ¬ Stops b → Path R Stops b z ms → (m ≡ mark) ⊎ Passes b z → Passes a z
        passing_step a b z m ms r nb rest (inl is) = ((a, (b, m)), (exact a b m).0 r, (is, inl refl, inr (nb, (ms, by_good b z ms rest (λ k h. any k)))))
        passing_step a b z m ms r nb rest (inr (f, listed, (is, until, from))) = (f, listed, (is, sooner ss a b f.0 m ((exact a b m).0 r, any m) nb until, from))

        passes : (a z : P) (ms : List M) → Path R Stops a z ms → Contains ms mark → Passes a z
        passes a z _ (one {m = m} r) h = elim (in_cons m mark [] h) [ inl is ↦ passing_first a z m is r | inr later ↦ absurd (in_none mark later) ]
        passes a z _ (step {b = b} {m = m} {ms = ms} r nb rest) h =
            passing_step a b z m ms r nb rest (elim (in_cons m mark ms h) [ inl is ↦ inl is | inr later ↦ inr (passes b z ms rest later) ])

        from_marked : (p q z : P) (m : M) → m ≡ mark → R p q m → From ss q z → Marked p z
        from_marked p q z m is r (inl same) = (m ∷ [], one (subst (λ (x : P). R p x m) same r), subst (λ (k : M). Contains (m ∷ []) k) is (in_here m []))
        from_marked p q z m is r (inr (n, (ms, w))) = (m ∷ ms, step r n (good_by q z ms w).0, subst (λ (k : M). Contains (m ∷ ms) k) is (in_here m ms))

        after_marked : (a p z : P) → Until ss a p → Marked p z → Marked a z
        after_marked a p z (inl same) w = subst (λ (x : P). Marked x z) (sym same) w
        after_marked a p z (inr ((ms, v), n)) (ns, w, h) = (ms ++ ns, join (good_by a p ms v).0 n w, Contains-append_right ms ns mark h)

        marked_by : (a z : P) → Passes a z → Marked a z
        marked_by a z (f, listed, (is, until, from)) = after_marked a f.0 z until (from_marked f.0 f.1.0 z f.1.1 is ((exact f.0 f.1.0 f.1.1).1 listed) from)

        passing_decided : (a z : P) (f : Hop) → Decided (Passing a z f)
        passing_decided a z f =
            turned ((f.1.1 ≡ mark) × (Until ss a f.0 × From ss f.1.0 z)) (Passing a z f) (λ (g, (u, h)). (g, u, h)) (λ (g, u, h). (g, (u, h)))
            (both (f.1.1 ≡ mark) (Until ss a f.0 × From ss f.1.0 z) (same_mark f.1.1)
            (both (Until ss a f.0) (From ss f.1.0 z) (until_by ss a f.0 (way_decided ss a f.0)) (from_by ss f.1.0 z (way_decided ss f.1.0 z))))

        pub marked_decided : (a z : P) → Decided (Marked a z)
        marked_decided a z = elim (some_decided (Passing a z) (passing_decided a z) ss) [
          | inl (f, listed, passing) ↦ inl (marked_by a z (f, listed, passing))
          | inr none_passes ↦ inr (λ (ms, path, h). (let (f, listed, passing) = passes a z ms path h in none_passes f listed passing))
        ]
