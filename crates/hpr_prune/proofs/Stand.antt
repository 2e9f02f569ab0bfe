-- Where parts stand that are left: as they stood.
use Rattle.std.proofs.Common.{◌≡◌, ◌⊎◌, sym, subst, inl, inr}
use Rattle.hpr_terms.specs.declared.tag.Tag.{Tag}
use Rattle.hpr_syntax.specs.Skeleton.{Skeleton, Point, at, StandsIn, Apart, Distinct}
use Rattle.hpr_syntax.specs.Places.{StandsLeft, Parted, EnclosesBoth}
use Rattle.hpr_prune.specs.Pruned.{Pruned, empty, act_kept, act_out, fork_kept, fork_out, round_kept, round_out, IsKept}

module _ (Keeps : Tag → Type 0) where
  pub stands_down : {b b' : Skeleton} (r : Pruned Keeps b b') (p : Point) → IsKept Keeps p → StandsIn b p → StandsIn b' p
  stands_down empty p i h = h
  stands_down (act_kept h r) p i (inl e) = inl e
  stands_down (act_kept h r) p i (inr g) = inr (stands_down r p i g)
  stands_down (act_out h r) p i (inl e) = absurd (h (subst (IsKept Keeps) e i))
  stands_down (act_out h r) p i (inr g) = stands_down r p i g
  stands_down (fork_kept h r s q) p i (inl e) = inl e
  stands_down (fork_kept h r s q) p i (inr (inl g)) = inr (inl (stands_down r p i g))
  stands_down (fork_kept h r s q) p i (inr (inr (inl g))) = inr (inr (inl (stands_down s p i g)))
  stands_down (fork_kept h r s q) p i (inr (inr (inr g))) = inr (inr (inr (stands_down q p i g)))
  stands_down (fork_out h r s q) p i (inl e) = absurd (h (subst (IsKept Keeps) e i))
  stands_down (fork_out h r s q) p i (inr (inl g)) = absurd (stands_down r p i g)
  stands_down (fork_out h r s q) p i (inr (inr (inl g))) = absurd (stands_down s p i g)
  stands_down (fork_out h r s q) p i (inr (inr (inr g))) = stands_down q p i g
  stands_down (round_kept h r q) p i (inl e) = inl e
  stands_down (round_kept h r q) p i (inr (inl g)) = inr (inl (stands_down r p i g))
  stands_down (round_kept h r q) p i (inr (inr g)) = inr (inr (stands_down q p i g))
  stands_down (round_out h r q) p i (inl e) = absurd (h (subst (IsKept Keeps) e i))
  stands_down (round_out h r q) p i (inr (inl g)) = absurd (stands_down r p i g)
  stands_down (round_out h r q) p i (inr (inr g)) = stands_down q p i g

  pub stands_up : {b b' : Skeleton} (r : Pruned Keeps b b') (p : Point) → StandsIn b' p → StandsIn b p × IsKept Keeps p
  stands_up empty p h = absurd h
  stands_up (act_kept h r) p (inl e) = (inl e, subst (IsKept Keeps) (sym e) h)
  stands_up (act_kept h r) p (inr g) = let x = stands_up r p g in (inr x.0, x.1)
  stands_up (act_out h r) p g = let x = stands_up r p g in (inr x.0, x.1)
  stands_up (fork_kept h r s q) p (inl e) = (inl e, subst (IsKept Keeps) (sym e) h)
  stands_up (fork_kept h r s q) p (inr (inl g)) = let x = stands_up r p g in (inr (inl x.0), x.1)
  stands_up (fork_kept h r s q) p (inr (inr (inl g))) = let x = stands_up s p g in (inr (inr (inl x.0)), x.1)
  stands_up (fork_kept h r s q) p (inr (inr (inr g))) = let x = stands_up q p g in (inr (inr (inr x.0)), x.1)
  stands_up (fork_out h r s q) p g = let x = stands_up q p g in (inr (inr (inr x.0)), x.1)
  stands_up (round_kept h r q) p (inl e) = (inl e, subst (IsKept Keeps) (sym e) h)
  stands_up (round_kept h r q) p (inr (inl g)) = let x = stands_up r p g in (inr (inl x.0), x.1)
  stands_up (round_kept h r q) p (inr (inr g)) = let x = stands_up q p g in (inr (inr x.0), x.1)
  stands_up (round_out h r q) p g = let x = stands_up q p g in (inr (inr x.0), x.1)

  apart : {b b' c c' : Skeleton} → Pruned Keeps b b' → Pruned Keeps c c' → Apart b c → Apart b' c'
  apart r s f p h g = f p (stands_up r p h).0 (stands_up s p g).0

  outside : {b b' : Skeleton} (r : Pruned Keeps b b') (p : Point) → ¬ StandsIn b p → ¬ StandsIn b' p
  outside r p n h = n (stands_up r p h).0

  pub distinct_down : {b b' : Skeleton} (r : Pruned Keeps b b') → Distinct b → Distinct b'
  distinct_down empty di = tt
  distinct_down (act_kept {t = t} h r) di = (outside r (at t) di.0, distinct_down r di.1)
  distinct_down (act_out h r) di = distinct_down r di.1
  distinct_down (fork_kept {t = t} h r s q) di =
      (outside r (at t) di.0, outside s (at t) di.1, outside q (at t) di.2, apart r s di.3, apart r q di.4, apart s q di.5, distinct_down r di.6, distinct_down s di.7, distinct_down q di.8)
  distinct_down (fork_out h r s q) di = distinct_down q di.8
  distinct_down (round_kept {t = t} h r q) di = (outside r (at t) di.0, outside q (at t) di.1, apart r q di.2, distinct_down r di.3, distinct_down q di.4)
  distinct_down (round_out h r q) di = distinct_down q di.4

  -- to the left
  pub left_down : {b b' : Skeleton} (r : Pruned Keeps b b') (d u : Point) → IsKept Keeps d → IsKept Keeps u → StandsLeft b d u → StandsLeft b' d u
  left_down empty d u i j h = h
  left_down (act_kept h r) d u i j (inl (e, g)) = inl (e, stands_down r u j g)
  left_down (act_kept h r) d u i j (inr g) = inr (left_down r d u i j g)
  left_down (act_out h r) d u i j (inl (e, g)) = absurd (h (subst (IsKept Keeps) e i))
  left_down (act_out h r) d u i j (inr g) = left_down r d u i j g
  left_down (fork_kept h r s q) d u i j (inl (e, inl g)) = inl (e, inl (stands_down r u j g))
  left_down (fork_kept h r s q) d u i j (inl (e, inr (inl g))) = inl (e, inr (inl (stands_down s u j g)))
  left_down (fork_kept h r s q) d u i j (inl (e, inr (inr g))) = inl (e, inr (inr (stands_down q u j g)))
  left_down (fork_kept h r s q) d u i j (inr (inl (x, inl y))) = inr (inl (stands_down r d i x, inl (stands_down s u j y)))
  left_down (fork_kept h r s q) d u i j (inr (inl (x, inr y))) = inr (inl (stands_down r d i x, inr (stands_down q u j y)))
  left_down (fork_kept h r s q) d u i j (inr (inr (inl (x, y)))) = inr (inr (inl (stands_down s d i x, stands_down q u j y)))
  left_down (fork_kept h r s q) d u i j (inr (inr (inr (inl g)))) = inr (inr (inr (inl (left_down r d u i j g))))
  left_down (fork_kept h r s q) d u i j (inr (inr (inr (inr (inl g))))) = inr (inr (inr (inr (inl (left_down s d u i j g)))))
  left_down (fork_kept h r s q) d u i j (inr (inr (inr (inr (inr g))))) = inr (inr (inr (inr (inr (left_down q d u i j g)))))
  left_down (fork_out h r s q) d u i j (inl (e, g)) = absurd (h (subst (IsKept Keeps) e i))
  left_down (fork_out h r s q) d u i j (inr (inl (x, y))) = absurd (stands_down r d i x)
  left_down (fork_out h r s q) d u i j (inr (inr (inl (x, y)))) = absurd (stands_down s d i x)
  left_down (fork_out h r s q) d u i j (inr (inr (inr (inl g)))) = absurd (left_down r d u i j g)
  left_down (fork_out h r s q) d u i j (inr (inr (inr (inr (inl g))))) = absurd (left_down s d u i j g)
  left_down (fork_out h r s q) d u i j (inr (inr (inr (inr (inr g))))) = left_down q d u i j g
  left_down (round_kept h r q) d u i j (inl (e, inl g)) = inl (e, inl (stands_down r u j g))
  left_down (round_kept h r q) d u i j (inl (e, inr g)) = inl (e, inr (stands_down q u j g))
  left_down (round_kept h r q) d u i j (inr (inl (x, y))) = inr (inl (stands_down r d i x, stands_down q u j y))
  left_down (round_kept h r q) d u i j (inr (inr (inl g))) = inr (inr (inl (left_down r d u i j g)))
  left_down (round_kept h r q) d u i j (inr (inr (inr g))) = inr (inr (inr (left_down q d u i j g)))
  left_down (round_out h r q) d u i j (inl (e, g)) = absurd (h (subst (IsKept Keeps) e i))
  left_down (round_out h r q) d u i j (inr (inl (x, y))) = absurd (stands_down r d i x)
  left_down (round_out h r q) d u i j (inr (inr (inl g))) = absurd (left_down r d u i j g)
  left_down (round_out h r q) d u i j (inr (inr (inr g))) = left_down q d u i j g

  pub left_up : {b b' : Skeleton} (r : Pruned Keeps b b') (d u : Point) → StandsLeft b' d u → StandsLeft b d u
  left_up empty d u h = h
  left_up (act_kept h r) d u (inl (e, g)) = inl (e, (stands_up r u g).0)
  left_up (act_kept h r) d u (inr g) = inr (left_up r d u g)
  left_up (act_out h r) d u g = inr (left_up r d u g)
  left_up (fork_kept h r s q) d u (inl (e, inl g)) = inl (e, inl (stands_up r u g).0)
  left_up (fork_kept h r s q) d u (inl (e, inr (inl g))) = inl (e, inr (inl (stands_up s u g).0))
  left_up (fork_kept h r s q) d u (inl (e, inr (inr g))) = inl (e, inr (inr (stands_up q u g).0))
  left_up (fork_kept h r s q) d u (inr (inl (x, inl y))) = inr (inl ((stands_up r d x).0, inl (stands_up s u y).0))
  left_up (fork_kept h r s q) d u (inr (inl (x, inr y))) = inr (inl ((stands_up r d x).0, inr (stands_up q u y).0))
  left_up (fork_kept h r s q) d u (inr (inr (inl (x, y)))) = inr (inr (inl ((stands_up s d x).0, (stands_up q u y).0)))
  left_up (fork_kept h r s q) d u (inr (inr (inr (inl g)))) = inr (inr (inr (inl (left_up r d u g))))
  left_up (fork_kept h r s q) d u (inr (inr (inr (inr (inl g))))) = inr (inr (inr (inr (inl (left_up s d u g)))))
  left_up (fork_kept h r s q) d u (inr (inr (inr (inr (inr g))))) = inr (inr (inr (inr (inr (left_up q d u g)))))
  left_up (fork_out h r s q) d u g = inr (inr (inr (inr (inr (left_up q d u g)))))
  left_up (round_kept h r q) d u (inl (e, inl g)) = inl (e, inl (stands_up r u g).0)
  left_up (round_kept h r q) d u (inl (e, inr g)) = inl (e, inr (stands_up q u g).0)
  left_up (round_kept h r q) d u (inr (inl (x, y))) = inr (inl ((stands_up r d x).0, (stands_up q u y).0))
  left_up (round_kept h r q) d u (inr (inr (inl g))) = inr (inr (inl (left_up r d u g)))
  left_up (round_kept h r q) d u (inr (inr (inr g))) = inr (inr (inr (left_up q d u g)))
  left_up (round_out h r q) d u g = inr (inr (inr (left_up q d u g)))

  -- in different branches of a conditional
  pub parted_down : {b b' : Skeleton} (r : Pruned Keeps b b') (d u : Point) → IsKept Keeps d → IsKept Keeps u → Parted b d u → Parted b' d u
  parted_down empty d u i j h = h
  parted_down (act_kept h r) d u i j g = parted_down r d u i j g
  parted_down (act_out h r) d u i j g = parted_down r d u i j g
  parted_down (fork_kept h r s q) d u i j (inl (inl (x, y))) = inl (inl (stands_down r d i x, stands_down s u j y))
  parted_down (fork_kept h r s q) d u i j (inl (inr (x, y))) = inl (inr (stands_down s d i x, stands_down r u j y))
  parted_down (fork_kept h r s q) d u i j (inr (inl g)) = inr (inl (parted_down r d u i j g))
  parted_down (fork_kept h r s q) d u i j (inr (inr (inl g))) = inr (inr (inl (parted_down s d u i j g)))
  parted_down (fork_kept h r s q) d u i j (inr (inr (inr g))) = inr (inr (inr (parted_down q d u i j g)))
  parted_down (fork_out h r s q) d u i j (inl (inl (x, y))) = absurd (stands_down r d i x)
  parted_down (fork_out h r s q) d u i j (inl (inr (x, y))) = absurd (stands_down s d i x)
  parted_down (fork_out h r s q) d u i j (inr (inl g)) = absurd (parted_down r d u i j g)
  parted_down (fork_out h r s q) d u i j (inr (inr (inl g))) = absurd (parted_down s d u i j g)
  parted_down (fork_out h r s q) d u i j (inr (inr (inr g))) = parted_down q d u i j g
  parted_down (round_kept h r q) d u i j (inl g) = inl (parted_down r d u i j g)
  parted_down (round_kept h r q) d u i j (inr g) = inr (parted_down q d u i j g)
  parted_down (round_out h r q) d u i j (inl g) = absurd (parted_down r d u i j g)
  parted_down (round_out h r q) d u i j (inr g) = parted_down q d u i j g

  pub parted_up : {b b' : Skeleton} (r : Pruned Keeps b b') (d u : Point) → Parted b' d u → Parted b d u
  parted_up empty d u h = h
  parted_up (act_kept h r) d u g = parted_up r d u g
  parted_up (act_out h r) d u g = parted_up r d u g
  parted_up (fork_kept h r s q) d u (inl (inl (x, y))) = inl (inl ((stands_up r d x).0, (stands_up s u y).0))
  parted_up (fork_kept h r s q) d u (inl (inr (x, y))) = inl (inr ((stands_up s d x).0, (stands_up r u y).0))
  parted_up (fork_kept h r s q) d u (inr (inl g)) = inr (inl (parted_up r d u g))
  parted_up (fork_kept h r s q) d u (inr (inr (inl g))) = inr (inr (inl (parted_up s d u g)))
  parted_up (fork_kept h r s q) d u (inr (inr (inr g))) = inr (inr (inr (parted_up q d u g)))
  parted_up (fork_out h r s q) d u g = inr (inr (inr (parted_up q d u g)))
  parted_up (round_kept h r q) d u (inl g) = inl (parted_up r d u g)
  parted_up (round_kept h r q) d u (inr g) = inr (parted_up q d u g)
  parted_up (round_out h r q) d u g = inr (parted_up q d u g)

  -- loops around both of two parts
  pub encloses_down : {b b' : Skeleton} (r : Pruned Keeps b b') (d u : Point) (w : Tag) → IsKept Keeps d → IsKept Keeps u → EnclosesBoth b d u w → EnclosesBoth b' d u w
  encloses_down empty d u w i j h = h
  encloses_down (act_kept h r) d u w i j g = encloses_down r d u w i j g
  encloses_down (act_out h r) d u w i j g = encloses_down r d u w i j g
  encloses_down (fork_kept h r s q) d u w i j (inl g) = inl (encloses_down r d u w i j g)
  encloses_down (fork_kept h r s q) d u w i j (inr (inl g)) = inr (inl (encloses_down s d u w i j g))
  encloses_down (fork_kept h r s q) d u w i j (inr (inr g)) = inr (inr (encloses_down q d u w i j g))
  encloses_down (fork_out h r s q) d u w i j (inl g) = absurd (encloses_down r d u w i j g)
  encloses_down (fork_out h r s q) d u w i j (inr (inl g)) = absurd (encloses_down s d u w i j g)
  encloses_down (fork_out h r s q) d u w i j (inr (inr g)) = encloses_down q d u w i j g
  encloses_down (round_kept {t = t} {b = b} {b' = b'} h r q) d u w i j (inl (e, x, y)) = inl (e, one_of d i x, one_of u j y)
    where
      one_of : (p : Point) → IsKept Keeps p → (p ≡ at t) ⊎ StandsIn b p → (p ≡ at t) ⊎ StandsIn b' p
      one_of p k (inl a) = inl a
      one_of p k (inr a) = inr (stands_down r p k a)
  encloses_down (round_kept h r q) d u w i j (inr (inl g)) = inr (inl (encloses_down r d u w i j g))
  encloses_down (round_kept h r q) d u w i j (inr (inr g)) = inr (inr (encloses_down q d u w i j g))
  encloses_down (round_out {t = t} {b = b} {k' = k'} h r q) d u w i j (inl (e, x, y)) = none d i x
    where
      none : (p : Point) → IsKept Keeps p → (p ≡ at t) ⊎ StandsIn b p → EnclosesBoth k' d u w
      none p k (inl a) = absurd (h (subst (IsKept Keeps) a k))
      none p k (inr a) = absurd (stands_down r p k a)
  encloses_down (round_out h r q) d u w i j (inr (inl g)) = absurd (encloses_down r d u w i j g)
  encloses_down (round_out h r q) d u w i j (inr (inr g)) = encloses_down q d u w i j g

  pub encloses_up : {b b' : Skeleton} (r : Pruned Keeps b b') (d u : Point) (w : Tag) → EnclosesBoth b' d u w → EnclosesBoth b d u w × Keeps w
  encloses_up empty d u w h = absurd h
  encloses_up (act_kept h r) d u w g = encloses_up r d u w g
  encloses_up (act_out h r) d u w g = encloses_up r d u w g
  encloses_up (fork_kept h r s q) d u w (inl g) = let x = encloses_up r d u w g in (inl x.0, x.1)
  encloses_up (fork_kept h r s q) d u w (inr (inl g)) = let x = encloses_up s d u w g in (inr (inl x.0), x.1)
  encloses_up (fork_kept h r s q) d u w (inr (inr g)) = let x = encloses_up q d u w g in (inr (inr x.0), x.1)
  encloses_up (fork_out h r s q) d u w g = let x = encloses_up q d u w g in (inr (inr x.0), x.1)
  encloses_up (round_kept {t = t} {b = b} {b' = b'} h r q) d u w (inl (e, x, y)) = (inl (e, one_of d x, one_of u y), subst Keeps (sym e) h)
    where
      one_of : (p : Point) → (p ≡ at t) ⊎ StandsIn b' p → (p ≡ at t) ⊎ StandsIn b p
      one_of p (inl a) = inl a
      one_of p (inr a) = inr (stands_up r p a).0
  encloses_up (round_kept h r q) d u w (inr (inl g)) = let x = encloses_up r d u w g in (inr (inl x.0), x.1)
  encloses_up (round_kept h r q) d u w (inr (inr g)) = let x = encloses_up q d u w g in (inr (inr x.0), x.1)
  encloses_up (round_out h r q) d u w g = let x = encloses_up q d u w g in (inr (inr x.0), x.1)
