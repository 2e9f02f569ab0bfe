-- From a part of a block straight on to a later part of the same block, where nothing between defines.
use Rattle.hpr_terms.specs.declared.tag.Tag.{Tag}
use Rattle.std.proofs.Common.{◌≡◌, List, [], ◌∷◌, ◌++◌, ◌⊎◌, Option, refl, subst, inl, inr}
use Rattle.hpr_syntax.specs.Paths.{Path, one, step}
use Rattle.hpr_syntax.specs.Skeleton.{Skeleton, nil, act, fork, round, Point, at, StandsIn, Distinct}
use Rattle.hpr_syntax.specs.Pairs.{Next, first_of, FollowsIn}
use Rattle.hpr_paths.proofs.Regions.{join}
use Rattle.hpr_paths.proofs.DirectWays.{widen, DirectWay, encloses_in}
use Rattle.hpr_paths.proofs.Between.{Suffix, self, by_act, by_fork, by_round, suffix_in}

-- from the first part of a block to z, or it is z already
abbrev pub Reaches : Skeleton → Next → (Point → Type 0) → Point → Type 0
Reaches B n Stops z = ((first_of B n).0 ≡ z) ⊎ ((ms : List (Option Tag)) × Path (FollowsIn B n) Stops (first_of B n).0 z ms)

-- one pair, then on from where it leads, in a block b inside B
onward : (B : Skeleton) (n : Next) (b : Skeleton) (nb : Next) (Stops : Point → Type 0) → ((a z : Point) (m : Option Tag) → FollowsIn b nb a z m → FollowsIn B n a z m)
    → (a z : Point) → FollowsIn B n a (first_of b nb).0 (first_of b nb).1 → ((first_of b nb).0 ≡ z ⊎ (¬ Stops (first_of b nb).0)) → Reaches b nb Stops z
    → (ms : List (Option Tag)) × Path (FollowsIn B n) Stops a z ms
onward B n b nb Stops outwards a z r q (inl e) = ((first_of b nb).1 ∷ [], subst (λ y. Path (FollowsIn B n) Stops a y ((first_of b nb).1 ∷ [])) e (one r))
onward B n b nb Stops outwards a z r (inl e) (inr p) = ((first_of b nb).1 ∷ [], subst (λ y. Path (FollowsIn B n) Stops a y ((first_of b nb).1 ∷ [])) e (one r))
onward B n b nb Stops outwards a z r (inr q) (inr p) = ((first_of b nb).1 ∷ p.0, step r q (widen outwards p.1))

abbrev pub AllPass : Skeleton → (Point → Type 0) → Type 0
AllPass B Stops = (p : Point) → StandsIn B p → ¬ Stops p

head_still : (b : Skeleton) (n : Next) (Stops : Point → Type 0) → AllPass b Stops → ((first_of b n).0 ≡ n.0) ⊎ (¬ Stops (first_of b n).0)
head_still nil n Stops s = inl refl
head_still (act t k) n Stops s = inr (s (at t) (inl refl))
head_still (fork t b c k) n Stops s = inr (s (at t) (inl refl))
head_still (round t b k) n Stops s = inr (s (at t) (inl refl))

-- on from where a block inside ends
follow : (B : Skeleton) (n : Next) (Stops : Point → Type 0) (a y z : Point) → (ms : List (Option Tag)) → Path (FollowsIn B n) Stops a y ms
    → (y ≡ z) ⊎ ((¬ Stops y) × ((ns : List (Option Tag)) × Path (FollowsIn B n) Stops y z ns)) → (ms : List (Option Tag)) × Path (FollowsIn B n) Stops a z ms
follow B n Stops a y z ms p (inl e) = (ms, subst (λ u. Path (FollowsIn B n) Stops a u ms) e p)
follow B n Stops a y z ms p (inr q) = (ms ++ q.1.0, join p q.0 q.1.1)

next_of : (B : Skeleton) (n : Next) (k : Skeleton) (Stops : Point → Type 0) → ((a z : Point) (m : Option Tag) → FollowsIn k n a z m → FollowsIn B n a z m) → (z : Point)
    → ((first_of k n).0 ≡ z) ⊎ (¬ Stops (first_of k n).0) → Reaches k n Stops z
    → ((first_of k n).0 ≡ z) ⊎ ((¬ Stops (first_of k n).0) × ((ns : List (Option Tag)) × Path (FollowsIn B n) Stops (first_of k n).0 z ns))
next_of B n k Stops outwards z (inl e) q = inl e
next_of B n k Stops outwards z (inr d) (inl e) = inl e
next_of B n k Stops outwards z (inr d) (inr q) = inr (d, (q.0, widen outwards q.1))

-- through a block in which nothing defines
pub through : (B : Skeleton) (n : Next) (Stops : Point → Type 0) → AllPass B Stops → Reaches B n Stops n.0
through nil n Stops s = inl refl
through (act t k) n Stops s =
    let sk = λ (p : Point) (i : StandsIn k p). s p (inr i) in
    inr (onward (act t k) n k n Stops (λ a z m h. inr h) (at t) n.0 (inl (refl, refl)) (head_still k n Stops sk) (through k n Stops sk))
through (fork t b c k) n Stops s =
    let sb = λ (p : Point) (i : StandsIn b p). s p (inr (inl i)) in
    let sk = λ (p : Point) (i : StandsIn k p). s p (inr (inr (inr i))) in
    let p = onward (fork t b c k) n b (first_of k n) Stops (λ a z m h. inr (inl h)) (at t) (first_of k n).0 (inl (refl, inl refl)) (head_still b (first_of k n) Stops sb) (through b (first_of k n) Stops sb) in
    inr (follow (fork t b c k) n Stops (at t) (first_of k n).0 n.0 p.0 p.1
    (next_of (fork t b c k) n k Stops (λ a z m h. inr (inr (inr h))) n.0 (head_still k n Stops sk) (through k n Stops sk)))
through (round t b k) n Stops s =
    let sk = λ (p : Point) (i : StandsIn k p). s p (inr (inr i)) in
    inr (onward (round t b k) n k n Stops (λ a z m h. inr (inr h)) (at t) n.0 (inl (refl, inr refl)) (head_still k n Stops sk) (through k n Stops sk))

-- to a later part of the block, where nothing before it defines
abbrev pub Clear : Skeleton → Skeleton → (Point → Type 0) → Type 0
Clear s k Stops = (p : Point) → StandsIn k p → ¬ StandsIn s p → ¬ Stops p

head_clear : (s k : Skeleton) (n : Next) (Stops : Point → Type 0) → Distinct k → Suffix s k → Clear s k Stops → ((first_of k n).0 ≡ (first_of s n).0) ⊎ (¬ Stops (first_of k n).0)
head_clear s _ n Stops di self c = inl refl
head_clear s _ n Stops di (by_act {t = t} {k = k} h) c = inr (c (at t) (inl refl) (λ i. di.0 (suffix_in s k h (at t) i)))
head_clear s _ n Stops di (by_fork {t = t} {k = k} h) c = inr (c (at t) (inl refl) (λ i. di.2 (suffix_in s k h (at t) i)))
head_clear s _ n Stops di (by_round {t = t} {k = k} h) c = inr (c (at t) (inl refl) (λ i. di.1 (suffix_in s k h (at t) i)))

pub straight : (s k : Skeleton) (n : Next) (Stops : Point → Type 0) → Distinct k → Suffix s k → Clear s k Stops → Reaches k n Stops (first_of s n).0
straight s _ n Stops di self c = inl refl
straight s _ n Stops di (by_act {t = t} {k = k} h) c =
    let ck = λ (p : Point) (i : StandsIn k p) (o : ¬ StandsIn s p). c p (inr i) o in
    inr (onward (act t k) n k n Stops (λ a z m h. inr h) (at t) (first_of s n).0 (inl (refl, refl)) (head_clear s k n Stops di.1 h ck) (straight s k n Stops di.1 h ck))
straight s _ n Stops di (by_fork {t = t} {b = b} {c = e} {k = k} h) c =
    let ck = λ (p : Point) (i : StandsIn k p) (o : ¬ StandsIn s p). c p (inr (inr (inr i))) o in
    let sb = λ (p : Point) (i : StandsIn b p). c p (inr (inl i)) (λ j. di.4 p i (suffix_in s k h p j)) in
    let p = onward (fork t b e k) n b (first_of k n) Stops (λ a z m h. inr (inl h)) (at t) (first_of k n).0 (inl (refl, inl refl)) (head_still b (first_of k n) Stops sb) (through b (first_of k n) Stops sb) in
    inr (follow (fork t b e k) n Stops (at t) (first_of k n).0 (first_of s n).0 p.0 p.1
    (next_of (fork t b e k) n k Stops (λ a z m h. inr (inr (inr h))) (first_of s n).0 (head_clear s k n Stops di.8 h ck) (straight s k n Stops di.8 h ck)))
straight s _ n Stops di (by_round {t = t} {b = b} {k = k} h) c =
    let ck = λ (p : Point) (i : StandsIn k p) (o : ¬ StandsIn s p). c p (inr (inr i)) o in
    inr (onward (round t b k) n k n Stops (λ a z m h. inr (inr h)) (at t) (first_of s n).0 (inl (refl, inr refl)) (head_clear s k n Stops di.4 h ck) (straight s k n Stops di.4 h ck))

-- from a definition d to a later part of its block, with nothing between that defines: a direct way
pub next_use : (d : Tag) (s k : Skeleton) (n : Next) (Stops : Point → Type 0) → Distinct (act d k) → Suffix s k → Clear s k Stops → (u : Tag) → (first_of s n).0 ≡ at u
    → DirectWay (act d k) n Stops (at d) (at u)
next_use d s k n Stops di h c u e =
    let p = onward (act d k) n k n Stops (λ a z m h. inr h) (at d) (first_of s n).0 (inl (refl, refl)) (head_clear s k n Stops di.1 h c) (straight s k n Stops di.1 h c) in
    subst (λ y. DirectWay (act d k) n Stops (at d) y) e (p.0, p.1, λ w m a. di.0 (encloses_in k (at d) (first_of s n).0 w a).0)
