-- The time order of places is a strict order, and a cause comes before what it calls for. Which of two places comes first is told by
-- their turns on the loops around both, and then by which part stands ahead.
use Rattle.hpr_terms.specs.declared.tag.Tag.{Tag}
use Rattle.std.proofs.Common.{◌≡◌, ℕ, suc, ◌<◌, Bool, List, [], ◌∷◌, ◌++◌, ◌⊎◌, refl, sym, ap, subst, ◌∙◌, inl, inr, arith, length}
use Rattle.hpr_paths.specs.Times.{HaveLessTurns, HaveSameTurns, Place, turn_at, InLoop, ComesBefore}
use Rattle.hpr_syntax.specs.Skeleton.{Skeleton, nil, act, fork, round, Point, at, StandsIn, Distinct}
use Rattle.hpr_paths.proofs.Steps.{turn_after, count_after}
use Rattle.hpr_paths.proofs.Listed.{before_in, top_stands, called_stands, turn_of}
use Rattle.hpr_paths.proofs.Causes.{IsCalledBy}
use Rattle.hpr_paths.proofs.Ahead.{StandsAhead}
use Rattle.hpr_paths.proofs.DirectWays.{ahead_in}

pub never_before_itself : (B : Skeleton) (d : ℕ) → Distinct B → (i : Place) → ¬ ComesBefore B d i i
never_before_itself nil d di i h = h
never_before_itself (act t k) d di i (inl h) = di.0 (subst (StandsIn k) h.0 h.1)
never_before_itself (act t k) d di i (inr h) = never_before_itself k d di.1 i h
never_before_itself (fork t b c k) d di i (inl (e, inl x)) = di.0 (subst (StandsIn b) e x)
never_before_itself (fork t b c k) d di i (inl (e, inr (inl x))) = di.1 (subst (StandsIn c) e x)
never_before_itself (fork t b c k) d di i (inl (e, inr (inr x))) = di.2 (subst (StandsIn k) e x)
never_before_itself (fork t b c k) d di i (inr (inl (inl x, y))) = di.4 (at i.0) x y
never_before_itself (fork t b c k) d di i (inr (inl (inr x, y))) = di.5 (at i.0) x y
never_before_itself (fork t b c k) d di i (inr (inr (inl h))) = never_before_itself b d di.6 i h
never_before_itself (fork t b c k) d di i (inr (inr (inr (inl h)))) = never_before_itself c d di.7 i h
never_before_itself (fork t b c k) d di i (inr (inr (inr (inr h)))) = never_before_itself k d di.8 i h
never_before_itself (round t b k) d di i (inl (inl e, y)) = di.1 (subst (StandsIn k) e y)
never_before_itself (round t b k) d di i (inl (inr x, y)) = di.2 (at i.0) x y
never_before_itself (round t b k) d di i (inr (inl h)) = never_before_itself k d di.4 i h
never_before_itself (round t b k) d di i (inr (inr (x, y, inl h))) = absurd (omega (arith, h))
never_before_itself (round t b k) d di i (inr (inr (x, y, inr (e, inl g)))) = di.0 (subst (StandsIn b) g.0 g.1)
never_before_itself (round t b k) d di i (inr (inr (x, y, inr (e, inr g)))) = never_before_itself b (suc d) di.3 i g

-- what comes after a place of a block
after_act : (t : Tag) (k : Skeleton) (d : ℕ) → Distinct (act t k) → (j l : Place) → ComesBefore (act t k) d j l → StandsIn k (at l.0)
after_act t k d di j l (inl h) = h.1
after_act t k d di j l (inr h) = (before_in k d j l h).1

after_fork : (t : Tag) (b c k : Skeleton) (d : ℕ) → (j l : Place) → ComesBefore (fork t b c k) d j l → StandsIn b (at l.0) ⊎ (StandsIn c (at l.0) ⊎ StandsIn k (at l.0))
after_fork t b c k d j l (inl h) = h.1
after_fork t b c k d j l (inr (inl h)) = inr (inr h.1)
after_fork t b c k d j l (inr (inr (inl h))) = inl (before_in b d j l h).1
after_fork t b c k d j l (inr (inr (inr (inl h)))) = inr (inl (before_in c d j l h).1)
after_fork t b c k d j l (inr (inr (inr (inr h)))) = inr (inr (before_in k d j l h).1)

pub before_trans : (B : Skeleton) (d : ℕ) → Distinct B → (i j l : Place) → ComesBefore B d i j → ComesBefore B d j l → ComesBefore B d i l
before_trans nil d di i j l h g = h
before_trans (act t k) d di i j l (inl h) g = inl (h.0, after_act t k d di j l g)
before_trans (act t k) d di i j l (inr h) (inl g) = absurd (di.0 (subst (StandsIn k) g.0 (before_in k d i j h).1))
before_trans (act t k) d di i j l (inr h) (inr g) = inr (before_trans k d di.1 i j l h g)
before_trans (fork t b c k) d di i j l (inl h) g = inl (h.0, after_fork t b c k d j l g)
before_trans (fork t b c k) d di i j l (inr (inl h)) g = inr (inl (h.0, go g))
  where
    go : ComesBefore (fork t b c k) d j l → StandsIn k (at l.0)
    go (inl g) = absurd (di.2 (subst (StandsIn k) g.0 h.1))
    go (inr (inl (x, y))) = y
    go (inr (inr (inl g))) = absurd (di.4 (at j.0) (before_in b d j l g).0 h.1)
    go (inr (inr (inr (inl g)))) = absurd (di.5 (at j.0) (before_in c d j l g).0 h.1)
    go (inr (inr (inr (inr g)))) = (before_in k d j l g).1
before_trans (fork t b c k) d di i j l (inr (inr (inl h))) g = go (λ x. before_trans b d di.6 i j l h x) g
  where
    w : StandsIn b (at i.0) × StandsIn b (at j.0)
    w = before_in b d i j h

    go : (ComesBefore b d j l → ComesBefore b d i l) → ComesBefore (fork t b c k) d j l → ComesBefore (fork t b c k) d i l
    go f (inl g) = absurd (di.0 (subst (StandsIn b) g.0 w.1))
    go f (inr (inl (x, y))) = inr (inl (inl w.0, y))
    go f (inr (inr (inl g))) = inr (inr (inl (f g)))
    go f (inr (inr (inr (inl g)))) = absurd (di.3 (at j.0) w.1 (before_in c d j l g).0)
    go f (inr (inr (inr (inr g)))) = absurd (di.4 (at j.0) w.1 (before_in k d j l g).0)
before_trans (fork t b c k) d di i j l (inr (inr (inr (inl h)))) g = go (λ x. before_trans c d di.7 i j l h x) g
  where
    w : StandsIn c (at i.0) × StandsIn c (at j.0)
    w = before_in c d i j h

    go : (ComesBefore c d j l → ComesBefore c d i l) → ComesBefore (fork t b c k) d j l → ComesBefore (fork t b c k) d i l
    go f (inl g) = absurd (di.1 (subst (StandsIn c) g.0 w.1))
    go f (inr (inl (x, y))) = inr (inl (inr w.0, y))
    go f (inr (inr (inl g))) = absurd (di.3 (at j.0) (before_in b d j l g).0 w.1)
    go f (inr (inr (inr (inl g)))) = inr (inr (inr (inl (f g))))
    go f (inr (inr (inr (inr g)))) = absurd (di.5 (at j.0) w.1 (before_in k d j l g).0)
before_trans (fork t b c k) d di i j l (inr (inr (inr (inr h)))) g = go (λ x. before_trans k d di.8 i j l h x) g
  where
    w : StandsIn k (at i.0) × StandsIn k (at j.0)
    w = before_in k d i j h

    go : (ComesBefore k d j l → ComesBefore k d i l) → ComesBefore (fork t b c k) d j l → ComesBefore (fork t b c k) d i l
    go f (inl g) = absurd (di.2 (subst (StandsIn k) g.0 w.1))
    go f (inr (inl (inl x, y))) = absurd (di.4 (at j.0) x w.1)
    go f (inr (inl (inr x, y))) = absurd (di.5 (at j.0) x w.1)
    go f (inr (inr (inl g))) = absurd (di.4 (at j.0) (before_in b d j l g).0 w.1)
    go f (inr (inr (inr (inl g)))) = absurd (di.5 (at j.0) (before_in c d j l g).0 w.1)
    go f (inr (inr (inr (inr g)))) = inr (inr (inr (inr (f g))))
before_trans (round t b k) d di i j l (inl h) g = inl (h.0, go g)
  where
    out : InLoop t b j → ⊥
    out (inl e) = di.1 (subst (StandsIn k) e h.1)
    out (inr x) = di.2 (at j.0) x h.1

    go : ComesBefore (round t b k) d j l → StandsIn k (at l.0)
    go (inl g) = absurd (out g.0)
    go (inr (inl g)) = (before_in k d j l g).1
    go (inr (inr g)) = absurd (out g.0)
before_trans (round t b k) d di i j l (inr (inl h)) g = go (λ x. before_trans k d di.4 i j l h x) g
  where
    out : InLoop t b j → ⊥
    out (inl e) = di.1 (subst (StandsIn k) e (before_in k d i j h).1)
    out (inr x) = di.2 (at j.0) x (before_in k d i j h).1

    go : (ComesBefore k d j l → ComesBefore k d i l) → ComesBefore (round t b k) d j l → ComesBefore (round t b k) d i l
    go f (inl g) = absurd (out g.0)
    go f (inr (inl g)) = inr (inl (f g))
    go f (inr (inr g)) = absurd (out g.0)
before_trans (round t b k) d di i j l (inr (inr (x, y, h))) g = go (λ p q. before_trans b (suc d) di.3 i j l p q) h g
  where
    in_body : ((at j.0 ≡ at t) × StandsIn b (at l.0)) ⊎ ComesBefore b (suc d) j l → StandsIn b (at l.0)
    in_body (inl g) = g.1
    in_body (inr g) = (before_in b (suc d) j l g).1

    deep : (ComesBefore b (suc d) i j → ComesBefore b (suc d) j l → ComesBefore b (suc d) i l)
        → ((at i.0 ≡ at t) × StandsIn b (at j.0)) ⊎ ComesBefore b (suc d) i j → ((at j.0 ≡ at t) × StandsIn b (at l.0)) ⊎ ComesBefore b (suc d) j l
        → ((at i.0 ≡ at t) × StandsIn b (at l.0)) ⊎ ComesBefore b (suc d) i l
    deep f (inl p) q = inl (p.0, in_body q)
    deep f (inr p) (inl q) = absurd (di.0 (subst (StandsIn b) q.0 (before_in b (suc d) i j p).1))
    deep f (inr p) (inr q) = inr (f p q)

    turn : (ComesBefore b (suc d) i j → ComesBefore b (suc d) j l → ComesBefore b (suc d) i l)
        → (turn_at d i.1 < turn_at d j.1) ⊎ ((turn_at d i.1 ≡ turn_at d j.1) × (((at i.0 ≡ at t) × StandsIn b (at j.0)) ⊎ ComesBefore b (suc d) i j))
        → (turn_at d j.1 < turn_at d l.1) ⊎ ((turn_at d j.1 ≡ turn_at d l.1) × (((at j.0 ≡ at t) × StandsIn b (at l.0)) ⊎ ComesBefore b (suc d) j l))
        → (turn_at d i.1 < turn_at d l.1) ⊎ ((turn_at d i.1 ≡ turn_at d l.1) × (((at i.0 ≡ at t) × StandsIn b (at l.0)) ⊎ ComesBefore b (suc d) i l))
    turn f (inl p) (inl q) = inl (omega (arith, p, q))
    turn f (inl p) (inr q) = inl (subst (λ y. turn_at d i.1 < y) q.0 p)
    turn f (inr p) (inl q) = inl (subst (λ y. y < turn_at d l.1) (sym p.0) q)
    turn f (inr p) (inr q) = inr (p.0 ∙ q.0, deep f p.1 q.1)

    go : (ComesBefore b (suc d) i j → ComesBefore b (suc d) j l → ComesBefore b (suc d) i l)
        → (turn_at d i.1 < turn_at d j.1) ⊎ ((turn_at d i.1 ≡ turn_at d j.1) × (((at i.0 ≡ at t) × StandsIn b (at j.0)) ⊎ ComesBefore b (suc d) i j))
        → ComesBefore (round t b k) d j l → ComesBefore (round t b k) d i l
    go f h (inl g) = inl (x, g.1)
    go f h (inr (inl g)) = absurd (out y (before_in k d j l g).0)
      where
        out : InLoop t b j → StandsIn k (at j.0) → ⊥
        out (inl e) z = di.1 (subst (StandsIn k) e z)
        out (inr q) z = di.2 (at j.0) q z
    go f h (inr (inr (u, v, g))) = inr (inr (x, v, turn f h g))

-- a cause comes before what it calls for
pub cause_before : (B : Skeleton) (T : List ℕ) (σ π : Place) (v : Bool) → IsCalledBy B T σ π v → ComesBefore B (length T) π σ
cause_before nil T σ π v h = h
cause_before (act t k) T σ π v h = inr (cause_before k T σ π v h)
cause_before (fork t b c k) T σ π v (inl (e, inl h)) = inl (ap (λ (y : Place). at y.0) e, inl (top_stands b 0 T σ h.1).0)
cause_before (fork t b c k) T σ π v (inl (e, inr h)) = inl (ap (λ (y : Place). at y.0) e, inr (inl (top_stands c 0 T σ h.1).0))
cause_before (fork t b c k) T σ π v (inr (inl h)) = inr (inr (inl (cause_before b T σ π v h)))
cause_before (fork t b c k) T σ π v (inr (inr (inl h))) = inr (inr (inr (inl (cause_before c T σ π v h))))
cause_before (fork t b c k) T σ π v (inr (inr (inr h))) = inr (inr (inr (inr (cause_before k T σ π v h))))
cause_before (round t b k) T σ π v (inl (j, e, f, inl h)) =
    let s = top_stands b 0 (T ++ (j ∷ [])) σ h in
    let a = ap (λ (y : Place). turn_at (length T) y.1) e ∙ turn_after T j [] in
    let g = ap (λ (y : Place). at y.0) e in
    inr (inr (inl g, inr s.0, inr (a ∙ sym (turn_of T j σ s.1), inl (g, s.0))))
cause_before (round t b k) T σ π v (inl (j, e, f, inr h)) =
    let a = ap (λ (y : Place). turn_at (length T) y.1) e ∙ turn_after T j [] in
    let c = ap (λ (y : Place). turn_at (length T) y.1) h ∙ turn_after T (suc j) [] in
    inr (inr (inl (ap (λ (y : Place). at y.0) e), inl (ap (λ (y : Place). at y.0) h), inl (omega (arith, a, c))))
cause_before (round t b k) T σ π v (inr (inl h)) =
    let s = called_stands b (T ++ (h.0 ∷ [])) σ π v h.1 in
    inr (inr (
      inr s.1.0,
      inr s.0.0,
      inr (
        turn_of T h.0 π s.1.1 ∙ sym (turn_of T h.0 σ s.0.1),
        inr (subst (λ d. ComesBefore b d π σ) (count_after T h.0) (cause_before b (T ++ (h.0 ∷ [])) σ π v h.1)),
      ),
    ))
cause_before (round t b k) T σ π v (inr (inr h)) = inr (inl (cause_before k T σ π v h))

-- c loops are around both parts
abbrev pub StandAcross : Skeleton → Point → Point → Type 0
StandAcross nil i j = ⊥
StandAcross (act t k) i j = ((i ≡ at t) × StandsIn (act t k) j) ⊎ (StandsIn (act t k) i × (j ≡ at t))
StandAcross (fork t b c k) i j =
    ((i ≡ at t) × StandsIn (fork t b c k) j) ⊎ ((StandsIn (fork t b c k) i × (j ≡ at t)) ⊎ ((StandsIn b i × (StandsIn c j ⊎ StandsIn k j)) ⊎ ((StandsIn c i × (StandsIn b j ⊎ StandsIn k j)) ⊎ (StandsIn k i × (StandsIn b j ⊎ StandsIn c j)))))
StandAcross (round t b k) i j = (((i ≡ at t) ⊎ StandsIn b i) × StandsIn k j) ⊎ (StandsIn k i × ((j ≡ at t) ⊎ StandsIn b j))

abbrev pub HaveCommon : Skeleton → Point → Point → ℕ → Type 0
HaveCommon nil i j c = ⊥
HaveCommon (act t k) i j c = (StandAcross (act t k) i j × (c ≡ 0)) ⊎ HaveCommon k i j c
HaveCommon (fork t b d k) i j c = (StandAcross (fork t b d k) i j × (c ≡ 0)) ⊎ (HaveCommon b i j c ⊎ (HaveCommon d i j c ⊎ HaveCommon k i j c))
HaveCommon (round t b k) i j c =
    (StandAcross (round t b k) i j × (c ≡ 0))
    ⊎ ((((((i ≡ at t) × ((j ≡ at t) ⊎ StandsIn b j)) ⊎ (StandsIn b i × (j ≡ at t))) × (c ≡ 1)))
    ⊎ (((n : ℕ) × HaveCommon b i j n × (c ≡ suc n)) ⊎ HaveCommon k i j c))

abbrev pub ByTurns : Skeleton → ℕ → ℕ → Place → Place → Type 0
ByTurns B c d i j = HaveLessTurns c d i.1 j.1 ⊎ (HaveSameTurns c d i.1 j.1 × StandsAhead B (at i.0) (at j.0))

-- there is such a number
pub common_count : (B : Skeleton) (i j : Point) → StandsIn B i → StandsIn B j → (c : ℕ) × HaveCommon B i j c
common_count nil i j x y = absurd x
common_count (act t k) i j (inl x) y = (0, inl (inl (x, y), refl))
common_count (act t k) i j (inr x) (inl y) = (0, inl (inr (inr x, y), refl))
common_count (act t k) i j (inr x) (inr y) = let n = common_count k i j x y in (n.0, inr n.1)
common_count (fork t b e k) i j (inl x) y = (0, inl (inl (x, y), refl))
common_count (fork t b e k) i j (inr x) (inl y) = (0, inl (inr (inl (inr x, y)), refl))
common_count (fork t b e k) i j (inr (inl x)) (inr (inl y)) = let n = common_count b i j x y in (n.0, inr (inl n.1))
common_count (fork t b e k) i j (inr (inl x)) (inr (inr y)) = (0, inl (inr (inr (inl (x, y))), refl))
common_count (fork t b e k) i j (inr (inr (inl x))) (inr (inl y)) = (0, inl (inr (inr (inr (inl (x, inl y)))), refl))
common_count (fork t b e k) i j (inr (inr (inl x))) (inr (inr (inl y))) = let n = common_count e i j x y in (n.0, inr (inr (inl n.1)))
common_count (fork t b e k) i j (inr (inr (inl x))) (inr (inr (inr y))) = (0, inl (inr (inr (inr (inl (x, inr y)))), refl))
common_count (fork t b e k) i j (inr (inr (inr x))) (inr (inl y)) = (0, inl (inr (inr (inr (inr (x, inl y)))), refl))
common_count (fork t b e k) i j (inr (inr (inr x))) (inr (inr (inl y))) = (0, inl (inr (inr (inr (inr (x, inr y)))), refl))
common_count (fork t b e k) i j (inr (inr (inr x))) (inr (inr (inr y))) = let n = common_count k i j x y in (n.0, inr (inr (inr n.1)))
common_count (round t b k) i j (inl x) (inl y) = (1, inr (inl (inl (x, inl y), refl)))
common_count (round t b k) i j (inl x) (inr (inl y)) = (1, inr (inl (inl (x, inr y), refl)))
common_count (round t b k) i j (inl x) (inr (inr y)) = (0, inl (inl (inl x, y), refl))
common_count (round t b k) i j (inr (inl x)) (inl y) = (1, inr (inl (inr (x, y), refl)))
common_count (round t b k) i j (inr (inl x)) (inr (inl y)) = let n = common_count b i j x y in (suc n.0, inr (inr (inl (n.0, n.1, refl))))
common_count (round t b k) i j (inr (inl x)) (inr (inr y)) = (0, inl (inl (inr x, y), refl))
common_count (round t b k) i j (inr (inr x)) (inl y) = (0, inl (inr (x, inl y), refl))
common_count (round t b k) i j (inr (inr x)) (inr (inl y)) = (0, inl (inr (x, inr y), refl))
common_count (round t b k) i j (inr (inr x)) (inr (inr y)) = let n = common_count k i j x y in (n.0, inr (inr (inr n.1)))

pub by_turns : (B : Skeleton) (d : ℕ) (i j : Place) → ComesBefore B d i j → (c : ℕ) × HaveCommon B (at i.0) (at j.0) c × ByTurns B c d i j
by_turns nil d i j h = absurd h
by_turns (act t k) d i j (inl h) = (0, inl (inl (h.0, inr h.1), refl), inr (tt, inl h))
by_turns (act t k) d i j (inr h) = go (by_turns k d i j h)
  where
    go : (c : ℕ) × HaveCommon k (at i.0) (at j.0) c × ByTurns k c d i j → (c : ℕ) × HaveCommon (act t k) (at i.0) (at j.0) c × ByTurns (act t k) c d i j
    go (c, w, inl x) = (c, inr w, inl x)
    go (c, w, inr x) = (c, inr w, inr (x.0, inr x.1))
by_turns (fork t b e k) d i j (inl h) = (0, inl (inl (h.0, inr h.1), refl), inr (tt, inl h))
by_turns (fork t b e k) d i j (inr (inl (inl x, y))) = (0, inl (inr (inr (inl (x, inr y))), refl), inr (tt, inr (inl (inl x, y))))
by_turns (fork t b e k) d i j (inr (inl (inr x, y))) = (0, inl (inr (inr (inr (inl (x, inr y)))), refl), inr (tt, inr (inl (inr x, y))))
by_turns (fork t b e k) d i j (inr (inr (inl h))) = go (by_turns b d i j h)
  where
    go : (c : ℕ) × HaveCommon b (at i.0) (at j.0) c × ByTurns b c d i j → (c : ℕ) × HaveCommon (fork t b e k) (at i.0) (at j.0) c × ByTurns (fork t b e k) c d i j
    go (c, w, inl x) = (c, inr (inl w), inl x)
    go (c, w, inr x) = (c, inr (inl w), inr (x.0, inr (inr (inl x.1))))
by_turns (fork t b e k) d i j (inr (inr (inr (inl h)))) = go (by_turns e d i j h)
  where
    go : (c : ℕ) × HaveCommon e (at i.0) (at j.0) c × ByTurns e c d i j → (c : ℕ) × HaveCommon (fork t b e k) (at i.0) (at j.0) c × ByTurns (fork t b e k) c d i j
    go (c, w, inl x) = (c, inr (inr (inl w)), inl x)
    go (c, w, inr x) = (c, inr (inr (inl w)), inr (x.0, inr (inr (inr (inl x.1)))))
by_turns (fork t b e k) d i j (inr (inr (inr (inr h)))) = go (by_turns k d i j h)
  where
    go : (c : ℕ) × HaveCommon k (at i.0) (at j.0) c × ByTurns k c d i j → (c : ℕ) × HaveCommon (fork t b e k) (at i.0) (at j.0) c × ByTurns (fork t b e k) c d i j
    go (c, w, inl x) = (c, inr (inr (inr w)), inl x)
    go (c, w, inr x) = (c, inr (inr (inr w)), inr (x.0, inr (inr (inr (inr x.1)))))
by_turns (round t b k) d i j (inl (inl x, y)) = (0, inl (inl (inl x, y), refl), inr (tt, inl (x, inr y)))
by_turns (round t b k) d i j (inl (inr x, y)) = (0, inl (inl (inr x, y), refl), inr (tt, inr (inl (x, y))))
by_turns (round t b k) d i j (inr (inl h)) = go (by_turns k d i j h)
  where
    go : (c : ℕ) × HaveCommon k (at i.0) (at j.0) c × ByTurns k c d i j → (c : ℕ) × HaveCommon (round t b k) (at i.0) (at j.0) c × ByTurns (round t b k) c d i j
    go (c, w, inl x) = (c, inr (inr (inr w)), inl x)
    go (c, w, inr x) = (c, inr (inr (inr w)), inr (x.0, inr (inr (inr x.1))))
by_turns (round t b k) d i j (inr (inr (x, y, inr (q, inl g)))) = (1, inr (inl (inl (g.0, inr g.1), refl)), inr ((q, tt), inl (g.0, inl g.1)))
by_turns (round t b k) d i j (inr (inr (x, y, inr (q, inr g)))) = go (by_turns b (suc d) i j g)
  where
    go : (c : ℕ) × HaveCommon b (at i.0) (at j.0) c × ByTurns b c (suc d) i j → (c : ℕ) × HaveCommon (round t b k) (at i.0) (at j.0) c × ByTurns (round t b k) c d i j
    go (c, w, inl x) = (suc c, inr (inr (inl (c, w, refl))), inl (inr (q, x)))
    go (c, w, inr x) = (suc c, inr (inr (inl (c, w, refl))), inr ((q, x.0), inr (inr (inl x.1))))
by_turns (round t b k) d i j (inr (inr (inl x, y, inl q))) = (1, inr (inl (inl (x, y), refl)), inl (inl q))
by_turns (round t b k) d i j (inr (inr (inr x, inl y, inl q))) = (1, inr (inl (inr (x, y), refl)), inl (inl q))
by_turns (round t b k) d i j (inr (inr (inr x, inr y, inl q))) =
    let n = common_count b (at i.0) (at j.0) x y in (suc n.0, inr (inr (inl (n.0, n.1, refl))), inl (inl q))

pub common_in : (B : Skeleton) (i j : Point) (c : ℕ) → HaveCommon B i j c → StandsIn B i × StandsIn B j
common_in nil i j c h = absurd h
common_in (act t k) i j c (inl (inl x, e)) = (inl x.0, x.1)
common_in (act t k) i j c (inl (inr x, e)) = (x.0, inl x.1)
common_in (act t k) i j c (inr h) = let g = common_in k i j c h in (inr g.0, inr g.1)
common_in (fork t b d k) i j c (inl (inl x, e)) = (inl x.0, x.1)
common_in (fork t b d k) i j c (inl (inr (inl x), e)) = (x.0, inl x.1)
common_in (fork t b d k) i j c (inl (inr (inr (inl x)), e)) = (inr (inl x.0), inr (inr x.1))
common_in (fork t b d k) i j c (inl (inr (inr (inr (inl (x, inl y)))), e)) = (inr (inr (inl x)), inr (inl y))
common_in (fork t b d k) i j c (inl (inr (inr (inr (inl (x, inr y)))), e)) = (inr (inr (inl x)), inr (inr (inr y)))
common_in (fork t b d k) i j c (inl (inr (inr (inr (inr (x, inl y)))), e)) = (inr (inr (inr x)), inr (inl y))
common_in (fork t b d k) i j c (inl (inr (inr (inr (inr (x, inr y)))), e)) = (inr (inr (inr x)), inr (inr (inl y)))
common_in (fork t b d k) i j c (inr (inl h)) = let g = common_in b i j c h in (inr (inl g.0), inr (inl g.1))
common_in (fork t b d k) i j c (inr (inr (inl h))) = let g = common_in d i j c h in (inr (inr (inl g.0)), inr (inr (inl g.1)))
common_in (fork t b d k) i j c (inr (inr (inr h))) = let g = common_in k i j c h in (inr (inr (inr g.0)), inr (inr (inr g.1)))
common_in (round t b k) i j c (inl (inl (inl x, y), e)) = (inl x, inr (inr y))
common_in (round t b k) i j c (inl (inl (inr x, y), e)) = (inr (inl x), inr (inr y))
common_in (round t b k) i j c (inl (inr (x, inl y), e)) = (inr (inr x), inl y)
common_in (round t b k) i j c (inl (inr (x, inr y), e)) = (inr (inr x), inr (inl y))
common_in (round t b k) i j c (inr (inl (inl (x, inl y), e))) = (inl x, inl y)
common_in (round t b k) i j c (inr (inl (inl (x, inr y), e))) = (inl x, inr (inl y))
common_in (round t b k) i j c (inr (inl (inr (x, y), e))) = (inr (inl x), inl y)
common_in (round t b k) i j c (inr (inr (inl h))) = let g = common_in b i j h.0 h.1 in (inr (inl g.0), inr (inl g.1))
common_in (round t b k) i j c (inr (inr (inr h))) = let g = common_in k i j c h in (inr (inr g.0), inr (inr g.1))

no_turns_less : (c d : ℕ) (s t : List ℕ) → c ≡ 0 → HaveLessTurns c d s t → ⊥
no_turns_less c d s t e h = subst (λ y. HaveLessTurns y d s t) e h

pub across_act : (t : Tag) (k : Skeleton) → Distinct (act t k) → (i j : Point) → StandAcross (act t k) i j → StandsIn k i → StandsIn k j → ⊥
across_act t k di i j (inl x) p q = di.0 (subst (StandsIn k) x.0 p)
across_act t k di i j (inr x) p q = di.0 (subst (StandsIn k) x.1 q)

pub across_yes : (t : Tag) (b d k : Skeleton) → Distinct (fork t b d k) → (i j : Point) → StandAcross (fork t b d k) i j → StandsIn b i → StandsIn b j → ⊥
across_yes t b d k di i j (inl x) p q = di.0 (subst (StandsIn b) x.0 p)
across_yes t b d k di i j (inr (inl x)) p q = di.0 (subst (StandsIn b) x.1 q)
across_yes t b d k di i j (inr (inr (inl (x, inl y)))) p q = di.3 j q y
across_yes t b d k di i j (inr (inr (inl (x, inr y)))) p q = di.4 j q y
across_yes t b d k di i j (inr (inr (inr (inl (x, y))))) p q = di.3 i p x
across_yes t b d k di i j (inr (inr (inr (inr (x, y))))) p q = di.4 i p x

pub across_no : (t : Tag) (b d k : Skeleton) → Distinct (fork t b d k) → (i j : Point) → StandAcross (fork t b d k) i j → StandsIn d i → StandsIn d j → ⊥
across_no t b d k di i j (inl x) p q = di.1 (subst (StandsIn d) x.0 p)
across_no t b d k di i j (inr (inl x)) p q = di.1 (subst (StandsIn d) x.1 q)
across_no t b d k di i j (inr (inr (inl (x, y)))) p q = di.3 i x p
across_no t b d k di i j (inr (inr (inr (inl (x, inl y))))) p q = di.3 j y q
across_no t b d k di i j (inr (inr (inr (inl (x, inr y))))) p q = di.5 j q y
across_no t b d k di i j (inr (inr (inr (inr (x, y))))) p q = di.5 i p x

pub across_rest : (t : Tag) (b d k : Skeleton) → Distinct (fork t b d k) → (i j : Point) → StandAcross (fork t b d k) i j → StandsIn k i → StandsIn k j → ⊥
across_rest t b d k di i j (inl x) p q = di.2 (subst (StandsIn k) x.0 p)
across_rest t b d k di i j (inr (inl x)) p q = di.2 (subst (StandsIn k) x.1 q)
across_rest t b d k di i j (inr (inr (inl (x, y)))) p q = di.4 i x p
across_rest t b d k di i j (inr (inr (inr (inl (x, y))))) p q = di.5 i x p
across_rest t b d k di i j (inr (inr (inr (inr (x, inl y))))) p q = di.4 j y q
across_rest t b d k di i j (inr (inr (inr (inr (x, inr y))))) p q = di.5 j y q

pub before_by_turns : (B : Skeleton) (c d : ℕ) → Distinct B → (i j : Place) → HaveCommon B (at i.0) (at j.0) c → ByTurns B c d i j → ComesBefore B d i j
before_by_turns nil c d di i j w r = absurd w
before_by_turns (act t k) c d di i j (inl (x, e)) (inl l) = absurd (no_turns_less c d i.1 j.1 e l)
before_by_turns (act t k) c d di i j (inl (x, e)) (inr (q, inl a)) = inl a
before_by_turns (act t k) c d di i j (inl (x, e)) (inr (q, inr a)) =
    let g = ahead_in k (at i.0) (at j.0) a in absurd (across_act t k di (at i.0) (at j.0) x g.0 g.1)
before_by_turns (act t k) c d di i j (inr w) (inl l) = inr (before_by_turns k c d di.1 i j w (inl l))
before_by_turns (act t k) c d di i j (inr w) (inr (q, inl a)) = absurd (di.0 (subst (StandsIn k) a.0 (common_in k (at i.0) (at j.0) c w).0))
before_by_turns (act t k) c d di i j (inr w) (inr (q, inr a)) = inr (before_by_turns k c d di.1 i j w (inr (q, a)))
before_by_turns (fork t b e k) c d di i j (inl (x, f)) (inl l) = absurd (no_turns_less c d i.1 j.1 f l)
before_by_turns (fork t b e k) c d di i j (inl (x, f)) (inr (q, inl a)) = inl a
before_by_turns (fork t b e k) c d di i j (inl (x, f)) (inr (q, inr (inl a))) = inr (inl a)
before_by_turns (fork t b e k) c d di i j (inl (x, f)) (inr (q, inr (inr (inl a)))) =
    let g = ahead_in b (at i.0) (at j.0) a in absurd (across_yes t b e k di (at i.0) (at j.0) x g.0 g.1)
before_by_turns (fork t b e k) c d di i j (inl (x, f)) (inr (q, inr (inr (inr (inl a))))) =
    let g = ahead_in e (at i.0) (at j.0) a in absurd (across_no t b e k di (at i.0) (at j.0) x g.0 g.1)
before_by_turns (fork t b e k) c d di i j (inl (x, f)) (inr (q, inr (inr (inr (inr a))))) =
    let g = ahead_in k (at i.0) (at j.0) a in absurd (across_rest t b e k di (at i.0) (at j.0) x g.0 g.1)
before_by_turns (fork t b e k) c d di i j (inr (inl w)) r = inr (inr (inl (before_by_turns b c d di.6 i j w (go r))))
  where
    g : StandsIn b (at i.0) × StandsIn b (at j.0)
    g = common_in b (at i.0) (at j.0) c w

    go : ByTurns (fork t b e k) c d i j → ByTurns b c d i j
    go (inl l) = inl l
    go (inr (q, inl a)) = absurd (di.0 (subst (StandsIn b) a.0 g.0))
    go (inr (q, inr (inl a))) = absurd (di.4 (at j.0) g.1 a.1)
    go (inr (q, inr (inr (inl a)))) = inr (q, a)
    go (inr (q, inr (inr (inr (inl a))))) = absurd (di.3 (at i.0) g.0 (ahead_in e (at i.0) (at j.0) a).0)
    go (inr (q, inr (inr (inr (inr a))))) = absurd (di.4 (at i.0) g.0 (ahead_in k (at i.0) (at j.0) a).0)
before_by_turns (fork t b e k) c d di i j (inr (inr (inl w))) r = inr (inr (inr (inl (before_by_turns e c d di.7 i j w (go r)))))
  where
    g : StandsIn e (at i.0) × StandsIn e (at j.0)
    g = common_in e (at i.0) (at j.0) c w

    go : ByTurns (fork t b e k) c d i j → ByTurns e c d i j
    go (inl l) = inl l
    go (inr (q, inl a)) = absurd (di.1 (subst (StandsIn e) a.0 g.0))
    go (inr (q, inr (inl a))) = absurd (di.5 (at j.0) g.1 a.1)
    go (inr (q, inr (inr (inl a)))) = absurd (di.3 (at i.0) (ahead_in b (at i.0) (at j.0) a).0 g.0)
    go (inr (q, inr (inr (inr (inl a))))) = inr (q, a)
    go (inr (q, inr (inr (inr (inr a))))) = absurd (di.5 (at i.0) g.0 (ahead_in k (at i.0) (at j.0) a).0)
before_by_turns (fork t b e k) c d di i j (inr (inr (inr w))) r = inr (inr (inr (inr (before_by_turns k c d di.8 i j w (go r)))))
  where
    g : StandsIn k (at i.0) × StandsIn k (at j.0)
    g = common_in k (at i.0) (at j.0) c w

    go : ByTurns (fork t b e k) c d i j → ByTurns k c d i j
    go (inl l) = inl l
    go (inr (q, inl a)) = absurd (di.2 (subst (StandsIn k) a.0 g.0))
    go (inr (q, inr (inl (inl x, y)))) = absurd (di.4 (at i.0) x g.0)
    go (inr (q, inr (inl (inr x, y)))) = absurd (di.5 (at i.0) x g.0)
    go (inr (q, inr (inr (inl a)))) = absurd (di.4 (at i.0) (ahead_in b (at i.0) (at j.0) a).0 g.0)
    go (inr (q, inr (inr (inr (inl a))))) = absurd (di.5 (at i.0) (ahead_in e (at i.0) (at j.0) a).0 g.0)
    go (inr (q, inr (inr (inr (inr a))))) = inr (q, a)
before_by_turns (round t b k) c d di i j (inl (x, f)) (inl l) = absurd (no_turns_less c d i.1 j.1 f l)
before_by_turns (round t b k) c d di i j (inl (x, f)) (inr (q, a)) = go x a
  where
    out : {p : Point} → (p ≡ at t) ⊎ StandsIn b p → StandsIn k p → ⊥
    out (inl e) z = di.1 (subst (StandsIn k) e z)
    out (inr y) z = di.2 _ y z

    go : StandAcross (round t b k) (at i.0) (at j.0) → StandsAhead (round t b k) (at i.0) (at j.0) → ComesBefore (round t b k) d i j
    go (inl y) (inl a) = inl (inl a.0, y.1)
    go (inl y) (inr (inl a)) = inl (inr a.0, a.1)
    go (inl y) (inr (inr (inl a))) = absurd (di.2 (at j.0) (ahead_in b (at i.0) (at j.0) a).1 y.1)
    go (inl y) (inr (inr (inr a))) = absurd (out y.0 (ahead_in k (at i.0) (at j.0) a).0)
    go (inr y) (inl a) = absurd (di.1 (subst (StandsIn k) a.0 y.0))
    go (inr y) (inr (inl a)) = absurd (out y.1 a.1)
    go (inr y) (inr (inr (inl a))) = absurd (di.2 (at i.0) (ahead_in b (at i.0) (at j.0) a).0 y.0)
    go (inr y) (inr (inr (inr a))) = absurd (out y.1 (ahead_in k (at i.0) (at j.0) a).1)
before_by_turns (round t b k) c d di i j (inr (inl (x, f))) r = go (subst (λ n. ByTurns (round t b k) n d i j) f r)
  where
    inside_i : ((at i.0 ≡ at t) × ((at j.0 ≡ at t) ⊎ StandsIn b (at j.0))) ⊎ (StandsIn b (at i.0) × (at j.0 ≡ at t)) → InLoop t b i
    inside_i (inl y) = inl y.0
    inside_i (inr y) = inr y.0

    inside_j : ((at i.0 ≡ at t) × ((at j.0 ≡ at t) ⊎ StandsIn b (at j.0))) ⊎ (StandsIn b (at i.0) × (at j.0 ≡ at t)) → InLoop t b j
    inside_j (inl y) = y.1
    inside_j (inr y) = inl y.1

    out : (p : Place) → InLoop t b p → StandsIn k (at p.0) → ⊥
    out p (inl e) z = di.1 (subst (StandsIn k) e z)
    out p (inr y) z = di.2 (at p.0) y z

    none : ((at i.0 ≡ at t) × ((at j.0 ≡ at t) ⊎ StandsIn b (at j.0))) ⊎ (StandsIn b (at i.0) × (at j.0 ≡ at t)) → StandsIn b (at i.0) → StandsIn b (at j.0) → ⊥
    none (inl y) p q = di.0 (subst (StandsIn b) y.0 p)
    none (inr y) p q = di.0 (subst (StandsIn b) y.1 q)

    go : ByTurns (round t b k) 1 d i j → ComesBefore (round t b k) d i j
    go (inl (inl l)) = inr (inr (inside_i x, inside_j x, inl l))
    go (inl (inr l)) = absurd l.1
    go (inr (q, inl (e, inl y))) = inr (inr (inside_i x, inside_j x, inr (q.0, inl (e, y))))
    go (inr (q, inl (e, inr y))) = absurd (out j (inside_j x) y)
    go (inr (q, inr (inl a))) = absurd (out j (inside_j x) a.1)
    go (inr (q, inr (inr (inl a)))) = let g = ahead_in b (at i.0) (at j.0) a in absurd (none x g.0 g.1)
    go (inr (q, inr (inr (inr a)))) = absurd (out i (inside_i x) (ahead_in k (at i.0) (at j.0) a).0)
before_by_turns (round t b k) c d di i j (inr (inr (inl (n, w, f)))) r =
    go (λ x. before_by_turns b n (suc d) di.3 i j w x) (subst (λ m. ByTurns (round t b k) m d i j) f r)
  where
    g : StandsIn b (at i.0) × StandsIn b (at j.0)
    g = common_in b (at i.0) (at j.0) n w

    go : (ByTurns b n (suc d) i j → ComesBefore b (suc d) i j) → ByTurns (round t b k) (suc n) d i j → ComesBefore (round t b k) d i j
    go h (inl (inl l)) = inr (inr (inr g.0, inr g.1, inl l))
    go h (inl (inr l)) = inr (inr (inr g.0, inr g.1, inr (l.0, inr (h (inl l.1)))))
    go h (inr (q, inl a)) = absurd (di.0 (subst (StandsIn b) a.0 g.0))
    go h (inr (q, inr (inl a))) = absurd (di.2 (at j.0) g.1 a.1)
    go h (inr (q, inr (inr (inl a)))) = inr (inr (inr g.0, inr g.1, inr (q.0, inr (h (inr (q.1, a))))))
    go h (inr (q, inr (inr (inr a)))) = absurd (di.2 (at i.0) g.0 (ahead_in k (at i.0) (at j.0) a).0)
before_by_turns (round t b k) c d di i j (inr (inr (inr w))) r = inr (inl (before_by_turns k c d di.4 i j w (go r)))
  where
    g : StandsIn k (at i.0) × StandsIn k (at j.0)
    g = common_in k (at i.0) (at j.0) c w

    go : ByTurns (round t b k) c d i j → ByTurns k c d i j
    go (inl l) = inl l
    go (inr (q, inl a)) = absurd (di.1 (subst (StandsIn k) a.0 g.0))
    go (inr (q, inr (inl a))) = absurd (di.2 (at i.0) a.0 g.0)
    go (inr (q, inr (inr (inl a)))) = absurd (di.2 (at i.0) (ahead_in b (at i.0) (at j.0) a).0 g.0)
    go (inr (q, inr (inr (inr a)))) = inr (q, a)
