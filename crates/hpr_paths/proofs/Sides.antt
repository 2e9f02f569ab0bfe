-- To stand ahead is to stand to the left, and in different branches of no conditional. And the loops around two parts have one number.
use Rattle.std.proofs.Common.{◌≡◌, ℕ, suc, ◌⊎◌, ap, sym, subst, ◌∙◌, inl, inr}
use Rattle.hpr_terms.specs.declared.tag.Tag.{Tag}
use Rattle.hpr_syntax.specs.Skeleton.{Skeleton, nil, act, fork, round, Point, at, StandsIn, Distinct}
use Rattle.hpr_paths.proofs.Ahead.{StandsAhead}
use Rattle.hpr_syntax.specs.Places.{StandsLeft, Parted}
use Rattle.hpr_paths.proofs.DirectWays.{ahead_in}
use Rattle.hpr_paths.proofs.TimeOrder.{HaveCommon, common_in, StandAcross, across_act, across_yes, across_no, across_rest}

pub ahead_of_left : (B : Skeleton) (d u : Point) → StandsLeft B d u → ¬ Parted B d u → StandsAhead B d u
ahead_of_left nil d u l n = l
ahead_of_left (act t k) d u (inl h) n = inl h
ahead_of_left (act t k) d u (inr h) n = inr (ahead_of_left k d u h n)
ahead_of_left (fork t b c k) d u (inl h) n = inl h
ahead_of_left (fork t b c k) d u (inr (inl (i, inl j))) n = absurd (n (inl (inl (i, j))))
ahead_of_left (fork t b c k) d u (inr (inl (i, inr j))) n = inr (inl (inl i, j))
ahead_of_left (fork t b c k) d u (inr (inr (inl h))) n = inr (inl (inr h.0, h.1))
ahead_of_left (fork t b c k) d u (inr (inr (inr (inl h)))) n = inr (inr (inl (ahead_of_left b d u h (λ x. n (inr (inl x))))))
ahead_of_left (fork t b c k) d u (inr (inr (inr (inr (inl h))))) n = inr (inr (inr (inl (ahead_of_left c d u h (λ x. n (inr (inr (inl x))))))))
ahead_of_left (fork t b c k) d u (inr (inr (inr (inr (inr h))))) n = inr (inr (inr (inr (ahead_of_left k d u h (λ x. n (inr (inr (inr x))))))))
ahead_of_left (round t b k) d u (inl h) n = inl h
ahead_of_left (round t b k) d u (inr (inl h)) n = inr (inl h)
ahead_of_left (round t b k) d u (inr (inr (inl h))) n = inr (inr (inl (ahead_of_left b d u h (λ x. n (inl x)))))
ahead_of_left (round t b k) d u (inr (inr (inr h))) n = inr (inr (inr (ahead_of_left k d u h (λ x. n (inr x)))))

pub left_of_ahead : (B : Skeleton) (d u : Point) → StandsAhead B d u → StandsLeft B d u
left_of_ahead nil d u h = h
left_of_ahead (act t k) d u (inl h) = inl h
left_of_ahead (act t k) d u (inr h) = inr (left_of_ahead k d u h)
left_of_ahead (fork t b c k) d u (inl h) = inl h
left_of_ahead (fork t b c k) d u (inr (inl (inl i, j))) = inr (inl (i, inr j))
left_of_ahead (fork t b c k) d u (inr (inl (inr i, j))) = inr (inr (inl (i, j)))
left_of_ahead (fork t b c k) d u (inr (inr (inl h))) = inr (inr (inr (inl (left_of_ahead b d u h))))
left_of_ahead (fork t b c k) d u (inr (inr (inr (inl h)))) = inr (inr (inr (inr (inl (left_of_ahead c d u h)))))
left_of_ahead (fork t b c k) d u (inr (inr (inr (inr h)))) = inr (inr (inr (inr (inr (left_of_ahead k d u h)))))
left_of_ahead (round t b k) d u (inl h) = inl h
left_of_ahead (round t b k) d u (inr (inl h)) = inr (inl h)
left_of_ahead (round t b k) d u (inr (inr (inl h))) = inr (inr (inl (left_of_ahead b d u h)))
left_of_ahead (round t b k) d u (inr (inr (inr h))) = inr (inr (inr (left_of_ahead k d u h)))

parted_in : (B : Skeleton) (d u : Point) → Parted B d u → StandsIn B d × StandsIn B u
parted_in nil d u h = absurd h
parted_in (act t k) d u h = let g = parted_in k d u h in (inr g.0, inr g.1)
parted_in (fork t b c k) d u (inl (inl h)) = (inr (inl h.0), inr (inr (inl h.1)))
parted_in (fork t b c k) d u (inl (inr h)) = (inr (inr (inl h.0)), inr (inl h.1))
parted_in (fork t b c k) d u (inr (inl h)) = let g = parted_in b d u h in (inr (inl g.0), inr (inl g.1))
parted_in (fork t b c k) d u (inr (inr (inl h))) = let g = parted_in c d u h in (inr (inr (inl g.0)), inr (inr (inl g.1)))
parted_in (fork t b c k) d u (inr (inr (inr h))) = let g = parted_in k d u h in (inr (inr (inr g.0)), inr (inr (inr g.1)))
parted_in (round t b k) d u (inl h) = let g = parted_in b d u h in (inr (inl g.0), inr (inl g.1))
parted_in (round t b k) d u (inr h) = let g = parted_in k d u h in (inr (inr g.0), inr (inr g.1))

-- where two points of a conditional are parted
parted_cases : (t : Tag) (b c k : Skeleton) (d u : Point) → Parted (fork t b c k) d u
    → (StandsIn b d × StandsIn c u) ⊎ ((StandsIn c d × StandsIn b u) ⊎ ((StandsIn b d × StandsIn b u) ⊎ ((StandsIn c d × StandsIn c u) ⊎ (StandsIn k d × StandsIn k u))))
parted_cases t b c k d u (inl (inl h)) = inl h
parted_cases t b c k d u (inl (inr h)) = inr (inl h)
parted_cases t b c k d u (inr (inl h)) = inr (inr (inl (parted_in b d u h)))
parted_cases t b c k d u (inr (inr (inl h))) = inr (inr (inr (inl (parted_in c d u h))))
parted_cases t b c k d u (inr (inr (inr h))) = inr (inr (inr (inr (parted_in k d u h))))

pub ahead_unparted : (B : Skeleton) → Distinct B → (d u : Point) → StandsAhead B d u → ¬ Parted B d u
ahead_unparted nil di d u h n = h
ahead_unparted (act t k) di d u (inl h) n = di.0 (subst (StandsIn k) h.0 (parted_in k d u n).0)
ahead_unparted (act t k) di d u (inr h) n = ahead_unparted k di.1 d u h n
ahead_unparted (fork t b c k) di d u (inl h) n = go (parted_cases t b c k d u n)
  where
    go : (StandsIn b d × StandsIn c u) ⊎ ((StandsIn c d × StandsIn b u) ⊎ ((StandsIn b d × StandsIn b u) ⊎ ((StandsIn c d × StandsIn c u) ⊎ (StandsIn k d × StandsIn k u)))) → ⊥
    go (inl x) = di.0 (subst (StandsIn b) h.0 x.0)
    go (inr (inl x)) = di.1 (subst (StandsIn c) h.0 x.0)
    go (inr (inr (inl x))) = di.0 (subst (StandsIn b) h.0 x.0)
    go (inr (inr (inr (inl x)))) = di.1 (subst (StandsIn c) h.0 x.0)
    go (inr (inr (inr (inr x)))) = di.2 (subst (StandsIn k) h.0 x.0)
ahead_unparted (fork t b c k) di d u (inr (inl h)) n = go (parted_cases t b c k d u n)
  where
    out : StandsIn b d ⊎ StandsIn c d → StandsIn k d → ⊥
    out (inl i) j = di.4 d i j
    out (inr i) j = di.5 d i j

    go : (StandsIn b d × StandsIn c u) ⊎ ((StandsIn c d × StandsIn b u) ⊎ ((StandsIn b d × StandsIn b u) ⊎ ((StandsIn c d × StandsIn c u) ⊎ (StandsIn k d × StandsIn k u)))) → ⊥
    go (inl x) = di.5 u x.1 h.1
    go (inr (inl x)) = di.4 u x.1 h.1
    go (inr (inr (inl x))) = di.4 u x.1 h.1
    go (inr (inr (inr (inl x)))) = di.5 u x.1 h.1
    go (inr (inr (inr (inr x)))) = out h.0 x.0
ahead_unparted (fork t b c k) di d u (inr (inr (inl h))) n = let i = ahead_in b d u h in go (λ x. ahead_unparted b di.6 d u h x) i.0 i.1 n
  where
    go : (Parted b d u → ⊥) → StandsIn b d → StandsIn b u → Parted (fork t b c k) d u → ⊥
    go f i j (inl (inl x)) = di.3 u j x.1
    go f i j (inl (inr x)) = di.3 d i x.0
    go f i j (inr (inl x)) = f x
    go f i j (inr (inr (inl x))) = di.3 d i (parted_in c d u x).0
    go f i j (inr (inr (inr x))) = di.4 d i (parted_in k d u x).0
ahead_unparted (fork t b c k) di d u (inr (inr (inr (inl h)))) n = let i = ahead_in c d u h in go (λ x. ahead_unparted c di.7 d u h x) i.0 i.1 n
  where
    go : (Parted c d u → ⊥) → StandsIn c d → StandsIn c u → Parted (fork t b c k) d u → ⊥
    go f i j (inl (inl x)) = di.3 d x.0 i
    go f i j (inl (inr x)) = di.3 u x.1 j
    go f i j (inr (inl x)) = di.3 d (parted_in b d u x).0 i
    go f i j (inr (inr (inl x))) = f x
    go f i j (inr (inr (inr x))) = di.5 d i (parted_in k d u x).0
ahead_unparted (fork t b c k) di d u (inr (inr (inr (inr h)))) n = let i = ahead_in k d u h in go (λ x. ahead_unparted k di.8 d u h x) i.0 i.1 n
  where
    go : (Parted k d u → ⊥) → StandsIn k d → StandsIn k u → Parted (fork t b c k) d u → ⊥
    go f i j (inl (inl x)) = di.4 d x.0 i
    go f i j (inl (inr x)) = di.5 d x.0 i
    go f i j (inr (inl x)) = di.4 d (parted_in b d u x).0 i
    go f i j (inr (inr (inl x))) = di.5 d (parted_in c d u x).0 i
    go f i j (inr (inr (inr x))) = f x
ahead_unparted (round t b k) di d u (inl h) (inl n) = di.0 (subst (StandsIn b) h.0 (parted_in b d u n).0)
ahead_unparted (round t b k) di d u (inl h) (inr n) = di.1 (subst (StandsIn k) h.0 (parted_in k d u n).0)
ahead_unparted (round t b k) di d u (inr (inl h)) (inl n) = di.2 u (parted_in b d u n).1 h.1
ahead_unparted (round t b k) di d u (inr (inl h)) (inr n) = di.2 d h.0 (parted_in k d u n).0
ahead_unparted (round t b k) di d u (inr (inr (inl h))) (inl n) = ahead_unparted b di.3 d u h n
ahead_unparted (round t b k) di d u (inr (inr (inl h))) (inr n) = di.2 d (ahead_in b d u h).0 (parted_in k d u n).0
ahead_unparted (round t b k) di d u (inr (inr (inr h))) (inl n) = di.2 d (parted_in b d u n).0 (ahead_in k d u h).0
ahead_unparted (round t b k) di d u (inr (inr (inr h))) (inr n) = ahead_unparted k di.4 d u h n

-- the loops around two parts have one number
abbrev AtHead : Tag → Skeleton → Point → Point → Type 0
AtHead t b i j = ((i ≡ at t) × ((j ≡ at t) ⊎ StandsIn b j)) ⊎ (StandsIn b i × (j ≡ at t))

across_head : (t : Tag) (b k : Skeleton) → Distinct (round t b k) → (i j : Point) → StandAcross (round t b k) i j → ((i ≡ at t) ⊎ StandsIn b i) → ((j ≡ at t) ⊎ StandsIn b j) → ⊥
across_head t b k di i j (inl x) p (inl e) = di.1 (subst (StandsIn k) e x.1)
across_head t b k di i j (inl x) p (inr e) = di.2 j e x.1
across_head t b k di i j (inr x) (inl e) q = di.1 (subst (StandsIn k) e x.0)
across_head t b k di i j (inr x) (inr e) q = di.2 i e x.0

across_rest_of_round : (t : Tag) (b k : Skeleton) → Distinct (round t b k) → (i j : Point) → StandAcross (round t b k) i j → StandsIn k i → StandsIn k j → ⊥
across_rest_of_round t b k di i j (inl (inl e, y)) p q = di.1 (subst (StandsIn k) e p)
across_rest_of_round t b k di i j (inl (inr e, y)) p q = di.2 i e p
across_rest_of_round t b k di i j (inr (y, inl e)) p q = di.1 (subst (StandsIn k) e q)
across_rest_of_round t b k di i j (inr (y, inr e)) p q = di.2 j e q

head_both : (t : Tag) (b : Skeleton) (i j : Point) → AtHead t b i j → ((i ≡ at t) ⊎ StandsIn b i) × ((j ≡ at t) ⊎ StandsIn b j)
head_both t b i j (inl x) = (inl x.0, x.1)
head_both t b i j (inr x) = (inr x.0, inl x.1)

head_inner : (t : Tag) (b k : Skeleton) → Distinct (round t b k) → (i j : Point) → AtHead t b i j → StandsIn b i → StandsIn b j → ⊥
head_inner t b k di i j (inl x) p q = di.0 (subst (StandsIn b) x.0 p)
head_inner t b k di i j (inr x) p q = di.0 (subst (StandsIn b) x.1 q)

head_rest : (t : Tag) (b k : Skeleton) → Distinct (round t b k) → (i j : Point) → AtHead t b i j → StandsIn k i → ⊥
head_rest t b k di i j (inl x) p = di.1 (subst (StandsIn k) x.0 p)
head_rest t b k di i j (inr x) p = di.2 i x.0 p

pub one_common : (B : Skeleton) → Distinct B → (i j : Point) (c e : ℕ) → HaveCommon B i j c → HaveCommon B i j e → c ≡ e
one_common nil di i j c e h g = absurd h
one_common (act t k) di i j c e (inl h) (inl g) = h.1 ∙ sym g.1
one_common (act t k) di i j c e (inl h) (inr g) = let o = common_in k i j e g in absurd (across_act t k di i j h.0 o.0 o.1)
one_common (act t k) di i j c e (inr h) (inl g) = let o = common_in k i j c h in absurd (across_act t k di i j g.0 o.0 o.1)
one_common (act t k) di i j c e (inr h) (inr g) = one_common k di.1 i j c e h g
one_common (fork t b d k) di i j c e (inl h) (inl g) = h.1 ∙ sym g.1
one_common (fork t b d k) di i j c e (inl h) (inr (inl g)) = let o = common_in b i j e g in absurd (across_yes t b d k di i j h.0 o.0 o.1)
one_common (fork t b d k) di i j c e (inl h) (inr (inr (inl g))) = let o = common_in d i j e g in absurd (across_no t b d k di i j h.0 o.0 o.1)
one_common (fork t b d k) di i j c e (inl h) (inr (inr (inr g))) = let o = common_in k i j e g in absurd (across_rest t b d k di i j h.0 o.0 o.1)
one_common (fork t b d k) di i j c e (inr (inl h)) (inl g) = let o = common_in b i j c h in absurd (across_yes t b d k di i j g.0 o.0 o.1)
one_common (fork t b d k) di i j c e (inr (inr (inl h))) (inl g) = let o = common_in d i j c h in absurd (across_no t b d k di i j g.0 o.0 o.1)
one_common (fork t b d k) di i j c e (inr (inr (inr h))) (inl g) = let o = common_in k i j c h in absurd (across_rest t b d k di i j g.0 o.0 o.1)
one_common (fork t b d k) di i j c e (inr (inl h)) (inr (inl g)) = one_common b di.6 i j c e h g
one_common (fork t b d k) di i j c e (inr (inl h)) (inr (inr (inl g))) = absurd (di.3 i (common_in b i j c h).0 (common_in d i j e g).0)
one_common (fork t b d k) di i j c e (inr (inl h)) (inr (inr (inr g))) = absurd (di.4 i (common_in b i j c h).0 (common_in k i j e g).0)
one_common (fork t b d k) di i j c e (inr (inr (inl h))) (inr (inl g)) = absurd (di.3 i (common_in b i j e g).0 (common_in d i j c h).0)
one_common (fork t b d k) di i j c e (inr (inr (inl h))) (inr (inr (inl g))) = one_common d di.7 i j c e h g
one_common (fork t b d k) di i j c e (inr (inr (inl h))) (inr (inr (inr g))) = absurd (di.5 i (common_in d i j c h).0 (common_in k i j e g).0)
one_common (fork t b d k) di i j c e (inr (inr (inr h))) (inr (inl g)) = absurd (di.4 i (common_in b i j e g).0 (common_in k i j c h).0)
one_common (fork t b d k) di i j c e (inr (inr (inr h))) (inr (inr (inl g))) = absurd (di.5 i (common_in d i j e g).0 (common_in k i j c h).0)
one_common (fork t b d k) di i j c e (inr (inr (inr h))) (inr (inr (inr g))) = one_common k di.8 i j c e h g
one_common (round t b k) di i j c e (inl h) (inl g) = h.1 ∙ sym g.1
one_common (round t b k) di i j c e (inl h) (inr (inl g)) = let m = head_both t b i j g.0 in absurd (across_head t b k di i j h.0 m.0 m.1)
one_common (round t b k) di i j c e (inl h) (inr (inr (inl g))) = let o = common_in b i j g.0 g.1 in absurd (across_head t b k di i j h.0 (inr o.0) (inr o.1))
one_common (round t b k) di i j c e (inl h) (inr (inr (inr g))) = let o = common_in k i j e g in absurd (across_rest_of_round t b k di i j h.0 o.0 o.1)
one_common (round t b k) di i j c e (inr (inl h)) (inl g) = let m = head_both t b i j h.0 in absurd (across_head t b k di i j g.0 m.0 m.1)
one_common (round t b k) di i j c e (inr (inl h)) (inr (inl g)) = h.1 ∙ sym g.1
one_common (round t b k) di i j c e (inr (inl h)) (inr (inr (inl g))) = let o = common_in b i j g.0 g.1 in absurd (head_inner t b k di i j h.0 o.0 o.1)
one_common (round t b k) di i j c e (inr (inl h)) (inr (inr (inr g))) = absurd (head_rest t b k di i j h.0 (common_in k i j e g).0)
one_common (round t b k) di i j c e (inr (inr (inl h))) (inl g) = let o = common_in b i j h.0 h.1 in absurd (across_head t b k di i j g.0 (inr o.0) (inr o.1))
one_common (round t b k) di i j c e (inr (inr (inl h))) (inr (inl g)) = let o = common_in b i j h.0 h.1 in absurd (head_inner t b k di i j g.0 o.0 o.1)
one_common (round t b k) di i j c e (inr (inr (inl h))) (inr (inr (inl g))) = h.2 ∙ (ap suc (one_common b di.3 i j h.0 g.0 h.1 g.1) ∙ sym g.2)
one_common (round t b k) di i j c e (inr (inr (inl h))) (inr (inr (inr g))) = absurd (di.2 i (common_in b i j h.0 h.1).0 (common_in k i j e g).0)
one_common (round t b k) di i j c e (inr (inr (inr h))) (inl g) = let o = common_in k i j c h in absurd (across_rest_of_round t b k di i j g.0 o.0 o.1)
one_common (round t b k) di i j c e (inr (inr (inr h))) (inr (inl g)) = absurd (head_rest t b k di i j g.0 (common_in k i j c h).0)
one_common (round t b k) di i j c e (inr (inr (inr h))) (inr (inr (inl g))) = absurd (di.2 i (common_in b i j g.0 g.1).0 (common_in k i j c h).0)
one_common (round t b k) di i j c e (inr (inr (inr h))) (inr (inr (inr g))) = one_common k di.4 i j c e h g
