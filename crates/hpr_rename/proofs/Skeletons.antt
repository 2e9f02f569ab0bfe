-- Blocks and skeletons with other tags.
use Rattle.std.proofs.Common.{◌≡◌, true, false, List, [], ◌∷◌, ◌++◌, ◌⊎◌, Option, Some, None, refl, ap, sym, subst, ◌∙◌, inl, inr}
use Rattle.hpr_terms.specs.declared.tag.Tag.{Tag}
use Rattle.hpr_syntax.specs.declared.rows.Content.{Content}
use Rattle.hpr_syntax.specs.declared.rows.Content.TheVariants.{While}
use Rattle.hpr_syntax.specs.Body.{Body, done, action, branch, loop}
use Rattle.hpr_syntax.specs.Rows.{Parent}
use Rattle.hpr_syntax.specs.Skeleton.{Skeleton, nil, act, fork, round, Point, enter, at, exit, StandsIn, skeleton}
use Rattle.hpr_syntax.specs.Pairs.{Next, first_of, FollowsIn, IsPair}
use Rattle.hpr_syntax.specs.Places.{StandsLeft, Parted, EnclosesBoth}
use Rattle.hpr_syntax.specs.Nests.{Standing, StandsAs, Says}
use Rattle.hpr_rename.specs.Renamed.{body_with}

-- a tag that is renamed twice is as it was, as where some tags are swapped with others
abbrev pub GoesBack : (Tag → Tag) → Type 0
GoesBack f = (t : Tag) → f (f t) ≡ t

module _ (f : Tag → Tag) where
  abbrev pub point_with : Point → Point
  point_with enter = enter
  point_with (at t) = at (f t)
  point_with exit = exit

  abbrev pub sk_with : Skeleton → Skeleton
  sk_with nil = nil
  sk_with (act t k) = act (f t) (sk_with k)
  sk_with (fork t b c k) = fork (f t) (sk_with b) (sk_with c) (sk_with k)
  sk_with (round t b k) = round (f t) (sk_with b) (sk_with k)

  abbrev pub mark_with : Option Tag → Option Tag
  mark_with None = None
  mark_with (Some w) = Some (f w)

  abbrev pub next_with : Next → Next
  next_with n = (point_with n.0, mark_with n.1)

  pub sk_of : (B : Body) → skeleton (body_with f B) ≡ sk_with (skeleton B)
  sk_of done = refl
  sk_of (action t d k) = ap (act (f t)) (sk_of k)
  sk_of (branch t e a b k) = let p = sk_of a in let q = sk_of b in let r = sk_of k in (λ i. fork (f t) (p i) (q i) (r i))
  sk_of (loop t e b k) = let q = sk_of b in let r = sk_of k in (λ i. round (f t) (q i) (r i))

  pub says_with : (B : Body) (t : Tag) (c : Content) → Says B t c → Says (body_with f B) (f t) c
  says_with done t c h = h
  says_with (action u d k) t c (inl h) = inl (ap f h.0, h.1)
  says_with (action u d k) t c (inr h) = inr (says_with k t c h)
  says_with (branch u e a b k) t c (inl h) = inl (ap f h.0, h.1)
  says_with (branch u e a b k) t c (inr (inl h)) = inr (inl (says_with a t c h))
  says_with (branch u e a b k) t c (inr (inr (inl h))) = inr (inr (inl (says_with b t c h)))
  says_with (branch u e a b k) t c (inr (inr (inr h))) = inr (inr (inr (says_with k t c h)))
  says_with (loop u e b k) t c (inl h) = inl (ap f h.0, h.1)
  says_with (loop u e b k) t c (inr (inl h)) = inr (inl (says_with b t c h))
  says_with (loop u e b k) t c (inr (inr h)) = inr (inr (says_with k t c h))

  abbrev pub parent_with : Parent → Parent
  parent_with None = None
  parent_with (Some p) = Some (f p.0, p.1)

  abbrev pub tags_with : List Tag → List Tag
  tags_with [] = []
  tags_with (t ∷ ts) = f t ∷ tags_with ts

  tags_one_more : (ts : List Tag) (t : Tag) → tags_with (ts ++ (t ∷ [])) ≡ tags_with ts ++ (f t ∷ [])
  tags_one_more [] t = refl
  tags_one_more (u ∷ ts) t = ap (λ l. f u ∷ l) (tags_one_more ts t)

  abbrev pub standing_with : Standing → Standing
  standing_with s = record { content = s.content; nest = tags_with s.nest; parent = parent_with s.parent }

  pub stands_with : (B : Body) (nest : List Tag) (up : Parent) (v : Tag) (s : Standing) → StandsAs nest up B v s → StandsAs (tags_with nest) (parent_with up) (body_with f B) (f v) (standing_with s)
  stands_with done nest up v s h = h
  stands_with (action t d k) nest up v s (inl h) = inl (ap f h.0, ap standing_with h.1)
  stands_with (action t d k) nest up v s (inr h) = inr (stands_with k nest up v s h)
  stands_with (branch t e a b k) nest up v s (inl h) = inl (ap f h.0, ap standing_with h.1)
  stands_with (branch t e a b k) nest up v s (inr (inl h)) = inr (inl (stands_with a nest (Some (t, true)) v s h))
  stands_with (branch t e a b k) nest up v s (inr (inr (inl h))) = inr (inr (inl (stands_with b nest (Some (t, false)) v s h)))
  stands_with (branch t e a b k) nest up v s (inr (inr (inr h))) = inr (inr (inr (stands_with k nest up v s h)))
  stands_with (loop t e b k) nest up v s (inl h) =
      inl (ap f h.0, ap standing_with h.1 ∙ ap (λ ts. record { content = While e; nest = ts; parent = parent_with up }) (tags_one_more nest t))
  stands_with (loop t e b k) nest up v s (inr (inl h)) =
      inr (inl (subst (λ ts. StandsAs ts (Some (f t, true)) (body_with f b) (f v) (standing_with s)) (tags_one_more nest t) (stands_with b (nest ++ (t ∷ [])) (Some (t, true)) v s h)))
  stands_with (loop t e b k) nest up v s (inr (inr h)) = inr (inr (stands_with k nest up v s h))

  pub in_with : (sk : Skeleton) (p : Point) → StandsIn sk p → StandsIn (sk_with sk) (point_with p)
  in_with nil p h = h
  in_with (act t k) p (inl e) = inl (ap point_with e)
  in_with (act t k) p (inr h) = inr (in_with k p h)
  in_with (fork t b c k) p (inl e) = inl (ap point_with e)
  in_with (fork t b c k) p (inr (inl h)) = inr (inl (in_with b p h))
  in_with (fork t b c k) p (inr (inr (inl h))) = inr (inr (inl (in_with c p h)))
  in_with (fork t b c k) p (inr (inr (inr h))) = inr (inr (inr (in_with k p h)))
  in_with (round t b k) p (inl e) = inl (ap point_with e)
  in_with (round t b k) p (inr (inl h)) = inr (inl (in_with b p h))
  in_with (round t b k) p (inr (inr h)) = inr (inr (in_with k p h))

  pub left_with : (sk : Skeleton) (d u : Point) → StandsLeft sk d u → StandsLeft (sk_with sk) (point_with d) (point_with u)
  left_with nil d u h = h
  left_with (act t k) d u (inl h) = inl (ap point_with h.0, in_with k u h.1)
  left_with (act t k) d u (inr h) = inr (left_with k d u h)
  left_with (fork t b c k) d u (inl (e, inl h)) = inl (ap point_with e, inl (in_with b u h))
  left_with (fork t b c k) d u (inl (e, inr (inl h))) = inl (ap point_with e, inr (inl (in_with c u h)))
  left_with (fork t b c k) d u (inl (e, inr (inr h))) = inl (ap point_with e, inr (inr (in_with k u h)))
  left_with (fork t b c k) d u (inr (inl (x, inl y))) = inr (inl (in_with b d x, inl (in_with c u y)))
  left_with (fork t b c k) d u (inr (inl (x, inr y))) = inr (inl (in_with b d x, inr (in_with k u y)))
  left_with (fork t b c k) d u (inr (inr (inl (x, y)))) = inr (inr (inl (in_with c d x, in_with k u y)))
  left_with (fork t b c k) d u (inr (inr (inr (inl h)))) = inr (inr (inr (inl (left_with b d u h))))
  left_with (fork t b c k) d u (inr (inr (inr (inr (inl h))))) = inr (inr (inr (inr (inl (left_with c d u h)))))
  left_with (fork t b c k) d u (inr (inr (inr (inr (inr h))))) = inr (inr (inr (inr (inr (left_with k d u h)))))
  left_with (round t b k) d u (inl (e, inl h)) = inl (ap point_with e, inl (in_with b u h))
  left_with (round t b k) d u (inl (e, inr h)) = inl (ap point_with e, inr (in_with k u h))
  left_with (round t b k) d u (inr (inl (x, y))) = inr (inl (in_with b d x, in_with k u y))
  left_with (round t b k) d u (inr (inr (inl h))) = inr (inr (inl (left_with b d u h)))
  left_with (round t b k) d u (inr (inr (inr h))) = inr (inr (inr (left_with k d u h)))

  pub parted_with : (sk : Skeleton) (d u : Point) → Parted sk d u → Parted (sk_with sk) (point_with d) (point_with u)
  parted_with nil d u h = h
  parted_with (act t k) d u h = parted_with k d u h
  parted_with (fork t b c k) d u (inl (inl (x, y))) = inl (inl (in_with b d x, in_with c u y))
  parted_with (fork t b c k) d u (inl (inr (x, y))) = inl (inr (in_with c d x, in_with b u y))
  parted_with (fork t b c k) d u (inr (inl h)) = inr (inl (parted_with b d u h))
  parted_with (fork t b c k) d u (inr (inr (inl h))) = inr (inr (inl (parted_with c d u h)))
  parted_with (fork t b c k) d u (inr (inr (inr h))) = inr (inr (inr (parted_with k d u h)))
  parted_with (round t b k) d u (inl h) = inl (parted_with b d u h)
  parted_with (round t b k) d u (inr h) = inr (parted_with k d u h)

  pub encloses_with : (sk : Skeleton) (d u : Point) (w : Tag) → EnclosesBoth sk d u w → EnclosesBoth (sk_with sk) (point_with d) (point_with u) (f w)
  encloses_with nil d u w h = h
  encloses_with (act t k) d u w h = encloses_with k d u w h
  encloses_with (fork t b c k) d u w (inl h) = inl (encloses_with b d u w h)
  encloses_with (fork t b c k) d u w (inr (inl h)) = inr (inl (encloses_with c d u w h))
  encloses_with (fork t b c k) d u w (inr (inr h)) = inr (inr (encloses_with k d u w h))
  encloses_with (round t b k) d u w (inl (e, x, y)) = inl (ap f e, one_of d x, one_of u y)
    where
      one_of : (p : Point) → (p ≡ at t) ⊎ StandsIn b p → (point_with p ≡ at (f t)) ⊎ StandsIn (sk_with b) (point_with p)
      one_of p (inl a) = inl (ap point_with a)
      one_of p (inr a) = inr (in_with b p a)
  encloses_with (round t b k) d u w (inr (inl h)) = inr (inl (encloses_with b d u w h))
  encloses_with (round t b k) d u w (inr (inr h)) = inr (inr (encloses_with k d u w h))

  -- pairs
  first_with : (sk : Skeleton) (n : Next) → next_with (first_of sk n) ≡ first_of (sk_with sk) (next_with n)
  first_with nil n = refl
  first_with (act t k) n = refl
  first_with (fork t b c k) n = refl
  first_with (round t b k) n = refl

  first_two : (b k : Skeleton) (n : Next) (y : Next) → y ≡ first_of b (first_of k n) → next_with y ≡ first_of (sk_with b) (first_of (sk_with k) (next_with n))
  first_two b k n y e = ap next_with e ∙ (first_with b (first_of k n) ∙ ap (first_of (sk_with b)) (first_with k n))

  pub follows_with : (sk : Skeleton) (n : Next) (a z : Point) (m : Option Tag) → FollowsIn sk n a z m → FollowsIn (sk_with sk) (next_with n) (point_with a) (point_with z) (mark_with m)
  follows_with nil n a z m h = h
  follows_with (act t k) n a z m (inl (e, i)) = inl (ap point_with e, ap next_with i ∙ first_with k n)
  follows_with (act t k) n a z m (inr h) = inr (follows_with k n a z m h)
  follows_with (fork t b c k) n a z m (inl (e, inl i)) = inl (ap point_with e, inl (first_two b k n (z, m) i))
  follows_with (fork t b c k) n a z m (inl (e, inr i)) = inl (ap point_with e, inr (first_two c k n (z, m) i))
  follows_with (fork t b c k) n a z m (inr (inl h)) =
      inr (inl (subst (λ y. FollowsIn (sk_with b) y (point_with a) (point_with z) (mark_with m)) (first_with k n) (follows_with b (first_of k n) a z m h)))
  follows_with (fork t b c k) n a z m (inr (inr (inl h))) =
      inr (inr (inl (subst (λ y. FollowsIn (sk_with c) y (point_with a) (point_with z) (mark_with m)) (first_with k n) (follows_with c (first_of k n) a z m h))))
  follows_with (fork t b c k) n a z m (inr (inr (inr h))) = inr (inr (inr (follows_with k n a z m h)))
  follows_with (round t b k) n a z m (inl (e, inl i)) = inl (ap point_with e, inl (ap next_with i ∙ first_with b (at t, Some t)))
  follows_with (round t b k) n a z m (inl (e, inr i)) = inl (ap point_with e, inr (ap next_with i ∙ first_with k n))
  follows_with (round t b k) n a z m (inr (inl h)) = inr (inl (follows_with b (at t, Some t) a z m h))
  follows_with (round t b k) n a z m (inr (inr h)) = inr (inr (follows_with k n a z m h))

  pub pair_with : (B : Body) (a z : Point) (m : Option Tag) → IsPair B a z m → IsPair (body_with f B) (point_with a) (point_with z) (mark_with m)
  pair_with B a z m (inl (e, i)) =
      inl (ap point_with e, subst (λ sk. (point_with z, mark_with m) ≡ first_of sk (exit, None)) (sym (sk_of B)) (ap next_with i ∙ first_with (skeleton B) (exit, None)))
  pair_with B a z m (inr h) =
      inr (subst (λ sk. FollowsIn sk (exit, None) (point_with a) (point_with z) (mark_with m)) (sym (sk_of B)) (follows_with (skeleton B) (exit, None) a z m h))

  module _ (back : GoesBack f) where
    pub body_twice : (B : Body) → body_with f (body_with f B) ≡ B
    body_twice done = refl
    body_twice (action t d k) = let p = back t in let q = body_twice k in (λ i. action (p i) d (q i))
    body_twice (branch t e a b k) = let p = back t in let r = body_twice a in let s = body_twice b in let q = body_twice k in (λ i. branch (p i) e (r i) (s i) (q i))
    body_twice (loop t e b k) = let p = back t in let s = body_twice b in let q = body_twice k in (λ i. loop (p i) e (s i) (q i))

    pub point_twice : (p : Point) → point_with (point_with p) ≡ p
    point_twice enter = refl
    point_twice (at t) = ap at (back t)
    point_twice exit = refl
