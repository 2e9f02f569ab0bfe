-- Where a point stands ahead of another and a path leads there, also round a loop outside, a direct way leads there: one that takes no
-- back edge to a loop around both.
use Rattle.hpr_terms.specs.declared.tag.Tag.{Tag}
use Rattle.std.proofs.Common.{◌≡◌, List, [], ◌∷◌, ◌++◌, ◌⊎◌, Option, Some, None, refl, sym, ap, subst, ◌∙◌, inl, inr}
use Rattle.hpr_syntax.specs.Paths.{Path, one, step}
use Rattle.hpr_syntax.specs.Skeleton.{Skeleton, nil, act, fork, round, Point, at, StandsIn, Distinct}
use Rattle.hpr_syntax.specs.Pairs.{Next, first_of, FollowsIn}
use Rattle.hpr_paths.proofs.Ahead.{StandsAhead, pair_from, pair_to, first_stands, first_stands_at, stands_in?, IsOutside, NoneEncloses, pair_after_act, pair_after_round, pair_in_body, pair_after_fork, pair_in_yes, pair_in_no, narrow, leaves, path_from}
use Rattle.hpr_syntax.specs.Places.{EnclosesBoth}
use Rattle.hpr_paths.proofs.Among.{Among, here, there}
use Rattle.hpr_paths.proofs.Regions.{Within, FromFirst, LeavesBy, ends, goes, last_entry, join}

-- a path out of a block at its end, and one into it from its first part
abbrev pub LeadsOut : Skeleton → Next → (Point → Type 0) → Point → Type 0
LeadsOut b n Stops d = (ms : List (Option Tag)) × Path (FollowsIn b n) Stops d n.0 ms

abbrev pub LeadsIn : Skeleton → Next → (Point → Type 0) → Point → Type 0
LeadsIn b n Stops u = ((first_of b n).0 ≡ u) ⊎ ((ms : List (Option Tag)) × (¬ Stops (first_of b n).0) × Path (FollowsIn b n) Stops (first_of b n).0 u ms)

abbrev pub LeadsOn : Skeleton → Next → (Point → Type 0) → Point → Point → Type 0
LeadsOn b n Stops d u = ((ms : List (Option Tag)) × Path (FollowsIn b n) Stops d u ms) ⊎ (LeadsOut b n Stops d × LeadsIn b n Stops u)

-- a block b inside B, which nb follows
pub record Inner (B : Skeleton) (n : Next) (b : Skeleton) (nb : Next) : Type 0 where
  pub inwards : (a z : Point) (m : Option Tag) → FollowsIn B n a z m → StandsIn b a → FollowsIn b nb a z m
  pub outwards : (a z : Point) (m : Option Tag) → FollowsIn b nb a z m → FollowsIn B n a z m
  pub by_first : (a z : Point) (m : Option Tag) → FollowsIn B n a z m → ¬ StandsIn b a → StandsIn b z → (first_of b nb).0 ≡ z
  pub outside : IsOutside nb b

pub widen : {R S : Point → Point → Option Tag → Type 0} {Stops : Point → Type 0} {a z : Point} {ms : List (Option Tag)}
    → ((a z : Point) (m : Option Tag) → R a z m → S a z m) → Path R Stops a z ms → Path S Stops a z ms
widen f (one {a = a} {z = b} {m = m} r) = one (f a b m r)
widen f (step {a = a} {b = c} {m = m} r d p) = step (f a c m r) d (widen f p)

out_of_inner : (B : Skeleton) (n : Next) (b : Skeleton) (nb : Next) (Stops : Point → Type 0) → Inner B n b nb → (d z : Point) (ms : List (Option Tag))
    → Path (FollowsIn B n) Stops d z ms → StandsIn b d → (StandsIn b z × Path (FollowsIn b nb) Stops d z ms) ⊎ LeadsOut b nb Stops d
out_of_inner B n b nb Stops s d z ms p i = go (leaves B n b nb Stops s.inwards d z ms p i)
  where
    out_of : (z : Point) (ms : List (Option Tag)) → LeavesBy (FollowsIn B n) (StandsIn b) Stops nb.0 nb.1 d z ms → LeadsOut b nb Stops d
    out_of _ _ (ends {ms = ms} p h) = (ms, narrow s.inwards p)
    out_of _ _ (goes {ms = ms} p h y q) = (ms, narrow s.inwards p)

    go : (StandsIn b z × Path (FollowsIn b nb) Stops d z ms) ⊎ LeavesBy (FollowsIn B n) (StandsIn b) Stops nb.0 nb.1 d z ms → (StandsIn b z × Path (FollowsIn b nb) Stops d z ms) ⊎ LeadsOut b nb Stops d
    go (inl h) = inl h
    go (inr x) = inr (out_of z ms x)

into_inner : (B : Skeleton) (n : Next) (b : Skeleton) (nb : Next) (Stops : Point → Type 0) → Inner B n b nb → (a u : Point) (ms : List (Option Tag))
    → Path (FollowsIn B n) Stops a u ms → StandsIn b u → (StandsIn b a × Path (FollowsIn b nb) Stops a u ms) ⊎ LeadsIn b nb Stops u
into_inner B n b nb Stops s a u ms p i = go (last_entry (FollowsIn B n) (StandsIn b) Stops (first_of b nb).0 (stands_in? b) s.by_first a u ms p i)
  where
    go : (StandsIn b a × Path (Within (FollowsIn B n) (StandsIn b)) Stops a u ms) ⊎ FromFirst (FollowsIn B n) (StandsIn b) Stops (first_of b nb).0 u → (StandsIn b a × Path (FollowsIn b nb) Stops a u ms) ⊎ LeadsIn b nb Stops u
    go (inl h) = inl (h.0, narrow s.inwards h.1)
    go (inr (inl e)) = inr (inl e)
    go (inr (inr h)) = inr (inr (h.0, h.1, narrow s.inwards h.2))

-- what leads on in B between two points of b leads on in b
on_in_inner : (B : Skeleton) (n : Next) (b : Skeleton) (nb : Next) (Stops : Point → Type 0) → Inner B n b nb → (d u : Point)
    → ¬ StandsIn b n.0 → ¬ StandsIn b (first_of B n).0 → LeadsOn B n Stops d u → StandsIn b d → StandsIn b u → LeadsOn b nb Stops d u
on_in_inner B n b nb Stops s d u nn nh (inl g) id iu = go (out_of_inner B n b nb Stops s d u g.0 g.1 id) (into_inner B n b nb Stops s d u g.0 g.1 iu)
  where
    go : (StandsIn b u × Path (FollowsIn b nb) Stops d u g.0) ⊎ LeadsOut b nb Stops d → (StandsIn b d × Path (FollowsIn b nb) Stops d u g.0) ⊎ LeadsIn b nb Stops u → LeadsOn b nb Stops d u
    go (inl h) _ = inl (g.0, h.1)
    go (inr o) (inl h) = inl (g.0, h.1)
    go (inr o) (inr x) = inr (o, x)
on_in_inner B n b nb Stops s d u nn nh (inr g) id iu = inr (out (out_of_inner B n b nb Stops s d n.0 g.0.0 g.0.1 id), into g.1)
  where
    out : (StandsIn b n.0 × Path (FollowsIn b nb) Stops d n.0 g.0.0) ⊎ LeadsOut b nb Stops d → LeadsOut b nb Stops d
    out (inl h) = absurd (nn h.0)
    out (inr o) = o

    pick : (ms : List (Option Tag)) → (StandsIn b (first_of B n).0 × Path (FollowsIn b nb) Stops (first_of B n).0 u ms) ⊎ LeadsIn b nb Stops u → LeadsIn b nb Stops u
    pick ms (inl x) = absurd (nh x.0)
    pick ms (inr x) = x

    into : LeadsIn B n Stops u → LeadsIn b nb Stops u
    into (inl e) = absurd (nh (subst (StandsIn b) (sym e) iu))
    into (inr h) = pick h.0 (into_inner B n b nb Stops s (first_of B n).0 u h.0 h.2 iu)

-- what comes from outside b to a point of b comes by its first part; what goes from b to a point outside leads out
comes_in : (B : Skeleton) (n : Next) (b : Skeleton) (nb : Next) (Stops : Point → Type 0) → Inner B n b nb → (d u : Point)
    → ¬ StandsIn b d → ¬ StandsIn b (first_of B n).0 → LeadsOn B n Stops d u → StandsIn b u → LeadsIn b nb Stops u
comes_in B n b nb Stops s d u nd nh g iu = go g
  where
    pick : (a : Point) (ms : List (Option Tag)) → ¬ StandsIn b a → (StandsIn b a × Path (FollowsIn b nb) Stops a u ms) ⊎ LeadsIn b nb Stops u → LeadsIn b nb Stops u
    pick a ms na (inl x) = absurd (na x.0)
    pick a ms na (inr x) = x

    go : LeadsOn B n Stops d u → LeadsIn b nb Stops u
    go (inl h) = pick d h.0 nd (into_inner B n b nb Stops s d u h.0 h.1 iu)
    go (inr (o, inl e)) = absurd (nh (subst (StandsIn b) (sym e) iu))
    go (inr (o, inr h)) = pick (first_of B n).0 h.0 nh (into_inner B n b nb Stops s (first_of B n).0 u h.0 h.2 iu)

goes_out : (B : Skeleton) (n : Next) (b : Skeleton) (nb : Next) (Stops : Point → Type 0) → Inner B n b nb → (d u : Point)
    → ¬ StandsIn b u → ¬ StandsIn b n.0 → LeadsOn B n Stops d u → StandsIn b d → LeadsOut b nb Stops d
goes_out B n b nb Stops s d u nu nn g id = go g
  where
    pick : (z : Point) (ms : List (Option Tag)) → ¬ StandsIn b z → (StandsIn b z × Path (FollowsIn b nb) Stops d z ms) ⊎ LeadsOut b nb Stops d → LeadsOut b nb Stops d
    pick z ms nz (inl x) = absurd (nz x.0)
    pick z ms nz (inr x) = x

    go : LeadsOn B n Stops d u → LeadsOut b nb Stops d
    go (inl h) = pick u h.0 nu (out_of_inner B n b nb Stops s d u h.0 h.1 id)
    go (inr h) = pick n.0 h.0.0 nn (out_of_inner B n b nb Stops s d n.0 h.0.0 h.0.1 id)

-- the blocks inside a block: rests, branches, bodies
pub inner_after_act : (t : Tag) (k : Skeleton) (n : Next) → Distinct (act t k) → IsOutside n (act t k) → Inner (act t k) n k n
inner_after_act t k n di fr = record { inwards = pair_after_act t k n di.0; outwards = λ a z m h. inr h; by_first = by_first; outside = λ x. fr (inr x) }
  where
    by_first : (a z : Point) (m : Option Tag) → FollowsIn (act t k) n a z m → ¬ StandsIn k a → StandsIn k z → (first_of k n).0 ≡ z
    by_first a z m (inl h) na iz = sym (ap (λ y. y.0) h.1)
    by_first a z m (inr h) na iz = absurd (na (pair_from k n a z m h))

pub inner_after_fork : (t : Tag) (b c k : Skeleton) (n : Next) → Distinct (fork t b c k) → IsOutside n (fork t b c k) → Inner (fork t b c k) n k n
inner_after_fork t b c k n di fr = record { inwards = pair_after_fork t b c k n di; outwards = λ a z m h. inr (inr (inr h)); by_first = by_first; outside = λ x. fr (inr (inr (inr x))) }
  where
    in_b : (z : Point) (m : Option Tag) → StandsIn k z → StandsIn b z ⊎ ((z, m) ≡ first_of k n) → (first_of k n).0 ≡ z
    in_b z m iz (inl x) = absurd (di.4 z x iz)
    in_b z m iz (inr e) = sym (ap (λ y. y.0) e)

    in_c : (z : Point) (m : Option Tag) → StandsIn k z → StandsIn c z ⊎ ((z, m) ≡ first_of k n) → (first_of k n).0 ≡ z
    in_c z m iz (inl x) = absurd (di.5 z x iz)
    in_c z m iz (inr e) = sym (ap (λ y. y.0) e)

    first : (z : Point) (m : Option Tag) → StandsIn k z → ((z, m) ≡ first_of b (first_of k n)) ⊎ ((z, m) ≡ first_of c (first_of k n)) → (first_of k n).0 ≡ z
    first z m iz (inl e) = in_b z m iz (first_stands_at b (first_of k n) z m e)
    first z m iz (inr e) = in_c z m iz (first_stands_at c (first_of k n) z m e)

    by_first : (a z : Point) (m : Option Tag) → FollowsIn (fork t b c k) n a z m → ¬ StandsIn k a → StandsIn k z → (first_of k n).0 ≡ z
    by_first a z m (inl h) na iz = first z m iz h.1
    by_first a z m (inr (inl h)) na iz = in_b z m iz (pair_to b (first_of k n) a z m h)
    by_first a z m (inr (inr (inl h))) na iz = in_c z m iz (pair_to c (first_of k n) a z m h)
    by_first a z m (inr (inr (inr h))) na iz = absurd (na (pair_from k n a z m h))

pub inner_yes : (t : Tag) (b c k : Skeleton) (n : Next) → Distinct (fork t b c k) → IsOutside n (fork t b c k) → Inner (fork t b c k) n b (first_of k n)
inner_yes t b c k n di fr = record { inwards = pair_in_yes t b c k n di; outwards = λ a z m h. inr (inl h); by_first = by_first; outside = λ x. outside x (first_stands k n) }
  where
    outside : StandsIn b (first_of k n).0 → StandsIn k (first_of k n).0 ⊎ (first_of k n ≡ n) → ⊥
    outside x (inl y) = di.4 (first_of k n).0 x y
    outside x (inr e) = fr (inr (inl (subst (StandsIn b) (ap (λ y. y.0) e) x)))

    in_k : (z : Point) (m : Option Tag) → StandsIn b z → StandsIn k z ⊎ ((z, m) ≡ n) → (first_of b (first_of k n)).0 ≡ z
    in_k z m iz (inl x) = absurd (di.4 z iz x)
    in_k z m iz (inr e) = absurd (fr (inr (inl (subst (StandsIn b) (ap (λ y. y.0) e) iz))))

    in_c : (z : Point) (m : Option Tag) → StandsIn b z → StandsIn c z ⊎ ((z, m) ≡ first_of k n) → (first_of b (first_of k n)).0 ≡ z
    in_c z m iz (inl x) = absurd (di.3 z iz x)
    in_c z m iz (inr e) = in_k z m iz (first_stands_at k n z m e)

    first : (z : Point) (m : Option Tag) → StandsIn b z → ((z, m) ≡ first_of b (first_of k n)) ⊎ ((z, m) ≡ first_of c (first_of k n)) → (first_of b (first_of k n)).0 ≡ z
    first z m iz (inl e) = sym (ap (λ y. y.0) e)
    first z m iz (inr e) = in_c z m iz (first_stands_at c (first_of k n) z m e)

    by_first : (a z : Point) (m : Option Tag) → FollowsIn (fork t b c k) n a z m → ¬ StandsIn b a → StandsIn b z → (first_of b (first_of k n)).0 ≡ z
    by_first a z m (inl h) na iz = first z m iz h.1
    by_first a z m (inr (inl h)) na iz = absurd (na (pair_from b (first_of k n) a z m h))
    by_first a z m (inr (inr (inl h))) na iz = in_c z m iz (pair_to c (first_of k n) a z m h)
    by_first a z m (inr (inr (inr h))) na iz = in_k z m iz (pair_to k n a z m h)

pub inner_no : (t : Tag) (b c k : Skeleton) (n : Next) → Distinct (fork t b c k) → IsOutside n (fork t b c k) → Inner (fork t b c k) n c (first_of k n)
inner_no t b c k n di fr = record { inwards = pair_in_no t b c k n di; outwards = λ a z m h. inr (inr (inl h)); by_first = by_first; outside = λ x. outside x (first_stands k n) }
  where
    outside : StandsIn c (first_of k n).0 → StandsIn k (first_of k n).0 ⊎ (first_of k n ≡ n) → ⊥
    outside x (inl y) = di.5 (first_of k n).0 x y
    outside x (inr e) = fr (inr (inr (inl (subst (StandsIn c) (ap (λ y. y.0) e) x))))

    in_k : (z : Point) (m : Option Tag) → StandsIn c z → StandsIn k z ⊎ ((z, m) ≡ n) → (first_of c (first_of k n)).0 ≡ z
    in_k z m iz (inl x) = absurd (di.5 z iz x)
    in_k z m iz (inr e) = absurd (fr (inr (inr (inl (subst (StandsIn c) (ap (λ y. y.0) e) iz)))))

    in_b : (z : Point) (m : Option Tag) → StandsIn c z → StandsIn b z ⊎ ((z, m) ≡ first_of k n) → (first_of c (first_of k n)).0 ≡ z
    in_b z m iz (inl x) = absurd (di.3 z x iz)
    in_b z m iz (inr e) = in_k z m iz (first_stands_at k n z m e)

    first : (z : Point) (m : Option Tag) → StandsIn c z → ((z, m) ≡ first_of b (first_of k n)) ⊎ ((z, m) ≡ first_of c (first_of k n)) → (first_of c (first_of k n)).0 ≡ z
    first z m iz (inl e) = in_b z m iz (first_stands_at b (first_of k n) z m e)
    first z m iz (inr e) = sym (ap (λ y. y.0) e)

    by_first : (a z : Point) (m : Option Tag) → FollowsIn (fork t b c k) n a z m → ¬ StandsIn c a → StandsIn c z → (first_of c (first_of k n)).0 ≡ z
    by_first a z m (inl h) na iz = first z m iz h.1
    by_first a z m (inr (inl h)) na iz = in_b z m iz (pair_to b (first_of k n) a z m h)
    by_first a z m (inr (inr (inl h))) na iz = absurd (na (pair_from c (first_of k n) a z m h))
    by_first a z m (inr (inr (inr h))) na iz = in_k z m iz (pair_to k n a z m h)

pub inner_body : (t : Tag) (b k : Skeleton) (n : Next) → Distinct (round t b k) → IsOutside n (round t b k) → Inner (round t b k) n b (at t, Some t)
inner_body t b k n di fr = record { inwards = pair_in_body t b k n di; outwards = λ a z m h. inr (inl h); by_first = by_first; outside = di.0 }
  where
    in_k : (z : Point) (m : Option Tag) → StandsIn b z → StandsIn k z ⊎ ((z, m) ≡ n) → (first_of b (at t, Some t)).0 ≡ z
    in_k z m iz (inl x) = absurd (di.2 z iz x)
    in_k z m iz (inr e) = absurd (fr (inr (inl (subst (StandsIn b) (ap (λ y. y.0) e) iz))))

    first : (z : Point) (m : Option Tag) → StandsIn b z → ((z, m) ≡ first_of b (at t, Some t)) ⊎ ((z, m) ≡ first_of k n) → (first_of b (at t, Some t)).0 ≡ z
    first z m iz (inl e) = sym (ap (λ y. y.0) e)
    first z m iz (inr e) = in_k z m iz (first_stands_at k n z m e)

    by_first : (a z : Point) (m : Option Tag) → FollowsIn (round t b k) n a z m → ¬ StandsIn b a → StandsIn b z → (first_of b (at t, Some t)).0 ≡ z
    by_first a z m (inl h) na iz = first z m iz h.1
    by_first a z m (inr (inl h)) na iz = absurd (na (pair_from b (at t, Some t) a z m h))
    by_first a z m (inr (inr h)) na iz = in_k z m iz (pair_to k n a z m h)

pub inner_after_round : (t : Tag) (b k : Skeleton) (n : Next) → Distinct (round t b k) → IsOutside n (round t b k) → Inner (round t b k) n k n
inner_after_round t b k n di fr = record { inwards = pair_after_round t b k n di; outwards = λ a z m h. inr (inr h); by_first = by_first; outside = λ x. fr (inr (inr x)) }
  where
    in_b : (z : Point) (m : Option Tag) → StandsIn k z → StandsIn b z ⊎ (◌≡◌ {A = Next} (z, m) (at t, Some t)) → (first_of k n).0 ≡ z
    in_b z m iz (inl x) = absurd (di.2 z x iz)
    in_b z m iz (inr e) = absurd (di.1 (subst (StandsIn k) (ap (λ y. y.0) e) iz))

    first : (z : Point) (m : Option Tag) → StandsIn k z → ((z, m) ≡ first_of b (at t, Some t)) ⊎ ((z, m) ≡ first_of k n) → (first_of k n).0 ≡ z
    first z m iz (inl e) = in_b z m iz (first_stands_at b (at t, Some t) z m e)
    first z m iz (inr e) = sym (ap (λ y. y.0) e)

    by_first : (a z : Point) (m : Option Tag) → FollowsIn (round t b k) n a z m → ¬ StandsIn k a → StandsIn k z → (first_of k n).0 ≡ z
    by_first a z m (inl h) na iz = first z m iz h.1
    by_first a z m (inr (inl h)) na iz = in_b z m iz (pair_to b (at t, Some t) a z m h)
    by_first a z m (inr (inr h)) na iz = absurd (na (pair_from k n a z m h))

-- a pair into a part of a block is marked by that part, if at all
abbrev HasSome : Option Tag → Type 0
HasSome (Some w) = Unit {0}
HasSome None = ⊥

abbrev some_or : Option Tag → Tag
some_or (Some w) = w
some_or None = record { author = 0; serial = 0 }

head_mark : (k : Skeleton) (n : Next) (z : Point) (m : Option Tag) (w : Tag) → (z, m) ≡ first_of k n → m ≡ Some w → (z, m) ≡ n
head_mark nil n z m w e f = e
head_mark (act t k) n z m w e f = absurd (subst HasSome (sym f ∙ ap (λ y. y.1) e) tt)
head_mark (fork t b c k) n z m w e f = absurd (subst HasSome (sym f ∙ ap (λ y. y.1) e) tt)
head_mark (round t b k) n z m w e f = absurd (subst HasSome (sym f ∙ ap (λ y. y.1) e) tt)

back_at : (z : Point) (m : Option Tag) (t w : Tag) → ◌≡◌ {A = Next} (z, m) (at t, Some t) → m ≡ Some w → z ≡ at w
back_at z m t w e f = ap (λ y. y.0) e ∙ ap at (ap some_or (sym (ap (λ y. y.1) e) ∙ f))

mark_at : (B : Skeleton) (n : Next) (a z : Point) (m : Option Tag) (w : Tag) → FollowsIn B n a z m → m ≡ Some w → (z ≡ at w) ⊎ ((z, m) ≡ n)
mark_at nil n a z m w h f = absurd h
mark_at (act t k) n a z m w (inl h) f = inr (head_mark k n z m w h.1 f)
mark_at (act t k) n a z m w (inr h) f = mark_at k n a z m w h f
mark_at (fork t b c k) n a z m w (inl h) f = inr (head_mark k n z m w (go h.1) f)
  where
    go : ((z, m) ≡ first_of b (first_of k n)) ⊎ ((z, m) ≡ first_of c (first_of k n)) → (z, m) ≡ first_of k n
    go (inl e) = head_mark b (first_of k n) z m w e f
    go (inr e) = head_mark c (first_of k n) z m w e f
mark_at (fork t b c k) n a z m w (inr (inl h)) f = go (mark_at b (first_of k n) a z m w h f)
  where
    go : (z ≡ at w) ⊎ ((z, m) ≡ first_of k n) → (z ≡ at w) ⊎ ((z, m) ≡ n)
    go (inl e) = inl e
    go (inr e) = inr (head_mark k n z m w e f)
mark_at (fork t b c k) n a z m w (inr (inr (inl h))) f = go (mark_at c (first_of k n) a z m w h f)
  where
    go : (z ≡ at w) ⊎ ((z, m) ≡ first_of k n) → (z ≡ at w) ⊎ ((z, m) ≡ n)
    go (inl e) = inl e
    go (inr e) = inr (head_mark k n z m w e f)
mark_at (fork t b c k) n a z m w (inr (inr (inr h))) f = mark_at k n a z m w h f
mark_at (round t b k) n a z m w (inl h) f = go h.1
  where
    go : ((z, m) ≡ first_of b (at t, Some t)) ⊎ ((z, m) ≡ first_of k n) → (z ≡ at w) ⊎ ((z, m) ≡ n)
    go (inl e) = inl (back_at z m t w (head_mark b (at t, Some t) z m w e f) f)
    go (inr e) = inr (head_mark k n z m w e f)
mark_at (round t b k) n a z m w (inr (inl h)) f = go (mark_at b (at t, Some t) a z m w h f)
  where
    go : (z ≡ at w) ⊎ (◌≡◌ {A = Next} (z, m) (at t, Some t)) → (z ≡ at w) ⊎ ((z, m) ≡ n)
    go (inl e) = inl e
    go (inr e) = inl (back_at z m t w e f)
mark_at (round t b k) n a z m w (inr (inr h)) f = mark_at k n a z m w h f

one_mark : (B : Skeleton) (n : Next) → IsOutside n B → (a z : Point) (m : Option Tag) (w : Tag) → FollowsIn B n a z m → StandsIn B z → m ≡ Some w → StandsIn B (at w)
one_mark B n fr a z m w r iz f = go (mark_at B n a z m w r f)
  where
    go : (z ≡ at w) ⊎ ((z, m) ≡ n) → StandsIn B (at w)
    go (inl e) = subst (StandsIn B) e iz
    go (inr e) = absurd (fr (subst (StandsIn B) (ap (λ y. y.0) e) iz))

among_cases : {M : Type 0} {x m : M} {ms : List M} → Among x (m ∷ ms) → (m ≡ x) ⊎ Among x ms
among_cases here = inl refl
among_cases (there h) = inr h

inner_mark : (B : Skeleton) (n : Next) (Stops : Point → Type 0) → IsOutside n B → (w : Tag) (a z : Point) (ms : List (Option Tag))
    → Path (FollowsIn B n) Stops a z ms → StandsIn B z → Among (Some w) ms → StandsIn B (at w)
inner_mark B n Stops fr w a z _ (one {m = m} r) iz h = go (among_cases h)
  where
    go : (m ≡ Some w) ⊎ Among (Some w) [] → StandsIn B (at w)
    go (inl e) = one_mark B n fr a z m w r iz e
    go (inr x) = absurd (none [] refl x)
      where
        none : (ns : List (Option Tag)) → ns ≡ [] → Among (Some w) ns → ⊥
        none _ e (here {ms = ms}) = subst (λ (y : List (Option Tag)). elim y as (λ q. Type 0) [ [] ↦ ⊥ | u ∷ us ↦ Unit {0} ]) e tt
        none _ e (there {n = u} {ms = ms} h) = subst (λ (y : List (Option Tag)). elim y as (λ q. Type 0) [ [] ↦ ⊥ | u ∷ us ↦ Unit {0} ]) e tt
inner_mark B n Stops fr w a z _ (step {b = c} {m = m} {ms = ms} r d p) iz h =
    go (λ x. inner_mark B n Stops fr w c z ms p iz x) (among_cases h)
  where
    go : (Among (Some w) ms → StandsIn B (at w)) → (m ≡ Some w) ⊎ Among (Some w) ms → StandsIn B (at w)
    go f (inl e) = one_mark B n fr a c m w r (path_from (pair_from B n) p) e
    go f (inr x) = f x

-- a loop around both has both
pub encloses_in : (B : Skeleton) (d u : Point) (w : Tag) → EnclosesBoth B d u w → StandsIn B d × StandsIn B u
encloses_in nil d u w h = absurd h
encloses_in (act t k) d u w h = let g = encloses_in k d u w h in (inr g.0, inr g.1)
encloses_in (fork t b c k) d u w (inl h) = let g = encloses_in b d u w h in (inr (inl g.0), inr (inl g.1))
encloses_in (fork t b c k) d u w (inr (inl h)) = let g = encloses_in c d u w h in (inr (inr (inl g.0)), inr (inr (inl g.1)))
encloses_in (fork t b c k) d u w (inr (inr h)) = let g = encloses_in k d u w h in (inr (inr (inr g.0)), inr (inr (inr g.1)))
encloses_in (round t b k) d u w (inl h) = (side h.1, side h.2)
  where
    side : {p : Point} → (p ≡ at t) ⊎ StandsIn b p → StandsIn (round t b k) p
    side (inl e) = inl e
    side (inr i) = inr (inl i)
encloses_in (round t b k) d u w (inr (inl h)) = let g = encloses_in b d u w h in (inr (inl g.0), inr (inl g.1))
encloses_in (round t b k) d u w (inr (inr h)) = let g = encloses_in k d u w h in (inr (inr g.0), inr (inr g.1))

-- only acts stop a path: predicates define nothing
abbrev pub OnlyActsStop : Skeleton → (Point → Type 0) → Type 0
OnlyActsStop nil Stops = Unit {0}
OnlyActsStop (act t k) Stops = OnlyActsStop k Stops
OnlyActsStop (fork t b c k) Stops = (¬ Stops (at t)) × OnlyActsStop b Stops × OnlyActsStop c Stops × OnlyActsStop k Stops
OnlyActsStop (round t b k) Stops = (¬ Stops (at t)) × OnlyActsStop b Stops × OnlyActsStop k Stops

-- from a point that is followed by the first part of k, on to what k leads to
enters_rest : (B : Skeleton) (n : Next) (k : Skeleton) (Stops : Point → Type 0) → ((a z : Point) (m : Option Tag) → FollowsIn k n a z m → FollowsIn B n a z m)
    → (a u : Point) → FollowsIn B n a (first_of k n).0 (first_of k n).1 → LeadsIn k n Stops u → (ms : List (Option Tag)) × Path (FollowsIn B n) Stops a u ms
enters_rest B n k Stops outwards a u r (inl e) = ((first_of k n).1 ∷ [], subst (λ y. Path (FollowsIn B n) Stops a y ((first_of k n).1 ∷ [])) e (one r))
enters_rest B n k Stops outwards a u r (inr h) = ((first_of k n).1 ∷ h.0, step r h.1 (widen outwards h.2))

after_b : (B : Skeleton) (n : Next) (b k : Skeleton) (Stops : Point → Type 0)
    → ((a z : Point) (m : Option Tag) → FollowsIn b (first_of k n) a z m → FollowsIn B n a z m) → ((a z : Point) (m : Option Tag) → FollowsIn k n a z m → FollowsIn B n a z m)
    → (d u : Point) → LeadsOut b (first_of k n) Stops d → LeadsIn k n Stops u → (ms : List (Option Tag)) × Path (FollowsIn B n) Stops d u ms
after_b B n b k Stops ub uk d u o (inl e) = (o.0, subst (λ y. Path (FollowsIn B n) Stops d y o.0) e (widen ub o.1))
after_b B n b k Stops ub uk d u o (inr h) = (o.0 ++ h.0, join (widen ub o.1) h.1 (widen uk h.2))

pub ahead_in : (B : Skeleton) (d u : Point) → StandsAhead B d u → StandsIn B d × StandsIn B u
ahead_in nil d u h = absurd h
ahead_in (act t k) d u (inl h) = (inl h.0, inr h.1)
ahead_in (act t k) d u (inr h) = let g = ahead_in k d u h in (inr g.0, inr g.1)
ahead_in (fork t b c k) d u (inl h) = (inl h.0, inr h.1)
ahead_in (fork t b c k) d u (inr (inl h)) = (side h.0, inr (inr (inr h.1)))
  where
    side : StandsIn b d ⊎ StandsIn c d → StandsIn (fork t b c k) d
    side (inl x) = inr (inl x)
    side (inr x) = inr (inr (inl x))
ahead_in (fork t b c k) d u (inr (inr (inl h))) = let g = ahead_in b d u h in (inr (inl g.0), inr (inl g.1))
ahead_in (fork t b c k) d u (inr (inr (inr (inl h)))) = let g = ahead_in c d u h in (inr (inr (inl g.0)), inr (inr (inl g.1)))
ahead_in (fork t b c k) d u (inr (inr (inr (inr h)))) = let g = ahead_in k d u h in (inr (inr (inr g.0)), inr (inr (inr g.1)))
ahead_in (round t b k) d u (inl h) = (inl h.0, inr h.1)
ahead_in (round t b k) d u (inr (inl h)) = (inr (inl h.0), inr (inr h.1))
ahead_in (round t b k) d u (inr (inr (inl h))) = let g = ahead_in b d u h in (inr (inl g.0), inr (inl g.1))
ahead_in (round t b k) d u (inr (inr (inr h))) = let g = ahead_in k d u h in (inr (inr g.0), inr (inr g.1))

abbrev pub DirectWay : Skeleton → Next → (Point → Type 0) → Point → Point → Type 0
DirectWay B n Stops d u = (ms : List (Option Tag)) × Path (FollowsIn B n) Stops d u ms × NoneEncloses B d u ms

-- where d, which stops paths, stands ahead of u and a path leads on from it to u, there is a direct way
pub direct_way : (B : Skeleton) (n : Next) (Stops : Point → Type 0) → Distinct B → IsOutside n B → OnlyActsStop B Stops → (d u : Point) → Stops d
    → LeadsOn B n Stops d u → StandsIn B d → StandsIn B u → StandsAhead B d u → DirectWay B n Stops d u
direct_way nil n Stops di fr qu d u dd g id iu h = absurd h
direct_way (act t k) n Stops di fr qu d u dd g id iu (inl h) =
    let s = inner_after_act t k n di fr in
    let nd = λ (x : StandsIn k d). di.0 (subst (StandsIn k) h.0 x) in
    let p = enters_rest (act t k) n k Stops s.outwards d u (inl (h.0, refl)) (comes_in (act t k) n k n Stops s d u nd di.0 g h.1) in
    (p.0, p.1, λ w m a. nd (encloses_in k d u w a).0)
direct_way (act t k) n Stops di fr qu d u dd g id iu (inr h) =
    let s = inner_after_act t k n di fr in
    let b = ahead_in k d u h in
    let p = direct_way k n Stops di.1 s.outside qu d u dd (on_in_inner (act t k) n k n Stops s d u s.outside di.0 g b.0 b.1) b.0 b.1 h in
    (p.0, widen s.outwards p.1, p.2)
direct_way (fork t b c k) n Stops di fr qu d u dd g id iu (inl h) = absurd (qu.0 (subst Stops h.0 dd))
direct_way (fork t b c k) n Stops di fr qu d u dd g id iu (inr (inl (inl x, y))) =
    let s = inner_yes t b c k n di fr in
    let r = inner_after_fork t b c k n di fr in
    let nu = λ (z : StandsIn b u). di.4 u z y in
    let nd = λ (z : StandsIn k d). di.4 d x z in
    let nn = λ (z : StandsIn b n.0). fr (inr (inl z)) in
    let p = after_b (fork t b c k) n b k Stops s.outwards r.outwards d u (goes_out (fork t b c k) n b (first_of k n) Stops s d u nu nn g x)
    (comes_in (fork t b c k) n k n Stops r d u nd di.2 g y) in
    (p.0, p.1, λ w m a. off w a)
  where
    off : (w : Tag) → EnclosesBoth (fork t b c k) d u w → ⊥
    off w (inl a) = di.4 u (encloses_in b d u w a).1 y
    off w (inr (inl a)) = di.5 u (encloses_in c d u w a).1 y
    off w (inr (inr a)) = di.4 d x (encloses_in k d u w a).0
direct_way (fork t b c k) n Stops di fr qu d u dd g id iu (inr (inl (inr x, y))) =
    let s = inner_no t b c k n di fr in
    let r = inner_after_fork t b c k n di fr in
    let nu = λ (z : StandsIn c u). di.5 u z y in
    let nd = λ (z : StandsIn k d). di.5 d x z in
    let nn = λ (z : StandsIn c n.0). fr (inr (inr (inl z))) in
    let p = after_b (fork t b c k) n c k Stops s.outwards r.outwards d u (goes_out (fork t b c k) n c (first_of k n) Stops s d u nu nn g x)
    (comes_in (fork t b c k) n k n Stops r d u nd di.2 g y) in
    (p.0, p.1, λ w m a. off w a)
  where
    off : (w : Tag) → EnclosesBoth (fork t b c k) d u w → ⊥
    off w (inl a) = di.4 u (encloses_in b d u w a).1 y
    off w (inr (inl a)) = di.5 u (encloses_in c d u w a).1 y
    off w (inr (inr a)) = di.5 d x (encloses_in k d u w a).0
direct_way (fork t b c k) n Stops di fr qu d u dd g id iu (inr (inr (inl h))) =
    let s = inner_yes t b c k n di fr in
    let i = ahead_in b d u h in
    let nn = λ (z : StandsIn b n.0). fr (inr (inl z)) in
    let p = direct_way b (first_of k n) Stops di.6 s.outside qu.1 d u dd (on_in_inner (fork t b c k) n b (first_of k n) Stops s d u nn di.0 g i.0 i.1) i.0 i.1 h in
    (p.0, widen s.outwards p.1, λ w m a. calm i.0 p.2 w m a)
  where
    calm : StandsIn b d → {ms : List (Option Tag)} → NoneEncloses b d u ms → (w : Tag) → Among (Some w) ms → EnclosesBoth (fork t b c k) d u w → ⊥
    calm x f w m (inl a) = f w m a
    calm x f w m (inr (inl a)) = di.3 d x (encloses_in c d u w a).0
    calm x f w m (inr (inr a)) = di.4 d x (encloses_in k d u w a).0
direct_way (fork t b c k) n Stops di fr qu d u dd g id iu (inr (inr (inr (inl h)))) =
    let s = inner_no t b c k n di fr in
    let i = ahead_in c d u h in
    let nn = λ (z : StandsIn c n.0). fr (inr (inr (inl z))) in
    let p = direct_way c (first_of k n) Stops di.7 s.outside qu.2 d u dd (on_in_inner (fork t b c k) n c (first_of k n) Stops s d u nn di.1 g i.0 i.1) i.0 i.1 h in
    (p.0, widen s.outwards p.1, λ w m a. calm i.0 p.2 w m a)
  where
    calm : StandsIn c d → {ms : List (Option Tag)} → NoneEncloses c d u ms → (w : Tag) → Among (Some w) ms → EnclosesBoth (fork t b c k) d u w → ⊥
    calm x f w m (inl a) = di.3 d (encloses_in b d u w a).0 x
    calm x f w m (inr (inl a)) = f w m a
    calm x f w m (inr (inr a)) = di.5 d x (encloses_in k d u w a).0
direct_way (fork t b c k) n Stops di fr qu d u dd g id iu (inr (inr (inr (inr h)))) =
    let s = inner_after_fork t b c k n di fr in
    let i = ahead_in k d u h in
    let p = direct_way k n Stops di.8 s.outside qu.3 d u dd (on_in_inner (fork t b c k) n k n Stops s d u s.outside di.2 g i.0 i.1) i.0 i.1 h in
    (p.0, widen s.outwards p.1, λ w m a. calm i.0 p.2 w m a)
  where
    calm : StandsIn k d → {ms : List (Option Tag)} → NoneEncloses k d u ms → (w : Tag) → Among (Some w) ms → EnclosesBoth (fork t b c k) d u w → ⊥
    calm x f w m (inl a) = di.4 d (encloses_in b d u w a).0 x
    calm x f w m (inr (inl a)) = di.5 d (encloses_in c d u w a).0 x
    calm x f w m (inr (inr a)) = f w m a
direct_way (round t b k) n Stops di fr qu d u dd g id iu (inl h) = absurd (qu.0 (subst Stops h.0 dd))
direct_way (round t b k) n Stops di fr qu d u dd g id iu (inr (inl h)) =
    let s = inner_body t b k n di fr in
    let r = inner_after_round t b k n di fr in
    let nu = λ (z : StandsIn b u). di.2 u z h.1 in
    let nd = λ (z : StandsIn k d). di.2 d h.0 z in
    let nn = λ (z : StandsIn b n.0). fr (inr (inl z)) in
    let o = goes_out (round t b k) n b (at t, Some t) Stops s d u nu nn g h.0 in
    let e = enters_rest (round t b k) n k Stops r.outwards (at t) u (inl (refl, inr refl)) (comes_in (round t b k) n k n Stops r d u nd di.1 g h.1) in
    (o.0 ++ e.0, join (widen s.outwards o.1) qu.0 e.1, λ w m a. off w a)
  where
    off : (w : Tag) → EnclosesBoth (round t b k) d u w → ⊥
    off w (inl (a, x, inl y)) = di.1 (subst (StandsIn k) y h.1)
    off w (inl (a, x, inr y)) = di.2 u y h.1
    off w (inr (inl a)) = di.2 u (encloses_in b d u w a).1 h.1
    off w (inr (inr a)) = di.2 d h.0 (encloses_in k d u w a).0
direct_way (round t b k) n Stops di fr qu d u dd g id iu (inr (inr (inl h))) =
    let s = inner_body t b k n di fr in
    let i = ahead_in b d u h in
    let nn = λ (z : StandsIn b n.0). fr (inr (inl z)) in
    let p = direct_way b (at t, Some t) Stops di.3 s.outside qu.1 d u dd (on_in_inner (round t b k) n b (at t, Some t) Stops s d u nn di.0 g i.0 i.1) i.0 i.1 h in
    (p.0, widen s.outwards p.1, λ w m a. calm i.0 i.1 p.1 p.2 w m a)
  where
    calm : StandsIn b d → StandsIn b u → {ms : List (Option Tag)} → Path (FollowsIn b (at t, Some t)) Stops d u ms → NoneEncloses b d u ms
        → (w : Tag) → Among (Some w) ms → EnclosesBoth (round t b k) d u w → ⊥
    calm x y q f w m (inl a) = di.0 (subst (λ v. StandsIn b (at v)) a.0 (inner_mark b (at t, Some t) Stops di.0 w d u _ q y m))
    calm x y q f w m (inr (inl a)) = f w m a
    calm x y q f w m (inr (inr a)) = di.2 d x (encloses_in k d u w a).0
direct_way (round t b k) n Stops di fr qu d u dd g id iu (inr (inr (inr h))) =
    let s = inner_after_round t b k n di fr in
    let i = ahead_in k d u h in
    let p = direct_way k n Stops di.4 s.outside qu.2 d u dd (on_in_inner (round t b k) n k n Stops s d u s.outside di.1 g i.0 i.1) i.0 i.1 h in
    (p.0, widen s.outwards p.1, λ w m a. calm i.0 p.2 w m a)
  where
    calm : StandsIn k d → {ms : List (Option Tag)} → NoneEncloses k d u ms → (w : Tag) → Among (Some w) ms → EnclosesBoth (round t b k) d u w → ⊥
    calm x f w m (inl (a, inl y, z)) = di.1 (subst (StandsIn k) y x)
    calm x f w m (inl (a, inr y, z)) = di.2 d y x
    calm x f w m (inr (inl a)) = di.2 d (encloses_in b d u w a).0 x
    calm x f w m (inr (inr a)) = f w m a
