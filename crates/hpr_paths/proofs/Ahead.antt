-- A path in a block that takes no back edge to a loop around both ends goes ahead: to the right, and not from one branch into another.
use Rattle.hpr_terms.specs.declared.tag.Tag.{Tag}
use Rattle.std.proofs.Common.{◌≡◌, List, ◌⊎◌, Option, Some, refl, sym, ap, subst, ◌∙◌, inl, inr}
use Rattle.hpr_paths.proofs.SkeletonTags.{tag_discrete}
use Rattle.hpr_syntax.specs.Paths.{Path, one, step}
use Rattle.hpr_syntax.specs.Skeleton.{Skeleton, nil, act, fork, round, Point, at, enter, exit, StandsIn, Distinct}
use Rattle.hpr_syntax.specs.Pairs.{Next, first_of, FollowsIn}
use Rattle.hpr_syntax.specs.Places.{EnclosesBoth}
use Rattle.hpr_paths.proofs.Among.{Among, here, there, among_front}
use Rattle.hpr_paths.proofs.Regions.{Within, LeavesBy, ends, goes, first_exit}

-- d stands to the left of u, and no conditional has them in different branches
abbrev pub StandsAhead : Skeleton → Point → Point → Type 0
StandsAhead nil d u = ⊥
StandsAhead (act t k) d u = ((d ≡ at t) × StandsIn k u) ⊎ StandsAhead k d u
StandsAhead (fork t b c k) d u =
    ((d ≡ at t) × (StandsIn b u ⊎ (StandsIn c u ⊎ StandsIn k u)))
    ⊎ (((StandsIn b d ⊎ StandsIn c d) × StandsIn k u) ⊎ (StandsAhead b d u ⊎ (StandsAhead c d u ⊎ StandsAhead k d u)))
StandsAhead (round t b k) d u =
    ((d ≡ at t) × (StandsIn b u ⊎ StandsIn k u)) ⊎ ((StandsIn b d × StandsIn k u) ⊎ (StandsAhead b d u ⊎ StandsAhead k d u))

pub pair_from : (b : Skeleton) (n : Next) (a z : Point) (m : Option Tag) → FollowsIn b n a z m → StandsIn b a
pair_from nil n a z m h = absurd h
pair_from (act t k) n a z m (inl h) = inl h.0
pair_from (act t k) n a z m (inr h) = inr (pair_from k n a z m h)
pair_from (fork t b c k) n a z m (inl h) = inl h.0
pair_from (fork t b c k) n a z m (inr (inl h)) = inr (inl (pair_from b (first_of k n) a z m h))
pair_from (fork t b c k) n a z m (inr (inr (inl h))) = inr (inr (inl (pair_from c (first_of k n) a z m h)))
pair_from (fork t b c k) n a z m (inr (inr (inr h))) = inr (inr (inr (pair_from k n a z m h)))
pair_from (round t b k) n a z m (inl h) = inl h.0
pair_from (round t b k) n a z m (inr (inl h)) = inr (inl (pair_from b (at t, Some t) a z m h))
pair_from (round t b k) n a z m (inr (inr h)) = inr (inr (pair_from k n a z m h))

pub first_stands : (b : Skeleton) (n : Next) → StandsIn b (first_of b n).0 ⊎ (first_of b n ≡ n)
first_stands nil n = inr refl
first_stands (act t k) n = inl (inl refl)
first_stands (fork t b c k) n = inl (inl refl)
first_stands (round t b k) n = inl (inl refl)

pub first_stands_at : (b : Skeleton) (n : Next) (z : Point) (m : Option Tag) → (z, m) ≡ first_of b n → StandsIn b z ⊎ ((z, m) ≡ n)
first_stands_at b n z m e = go (first_stands b n)
  where
    go : StandsIn b (first_of b n).0 ⊎ (first_of b n ≡ n) → StandsIn b z ⊎ ((z, m) ≡ n)
    go (inl h) = inl (subst (StandsIn b) (sym (ap (λ y. y.0) e)) h)
    go (inr h) = inr (e ∙ h)

-- where the first part of k follows b
first_of_two : (b k : Skeleton) (n : Next) (z : Point) (m : Option Tag) → StandsIn b z ⊎ ((z, m) ≡ first_of k n) → StandsIn b z ⊎ (StandsIn k z ⊎ ((z, m) ≡ n))
first_of_two b k n z m (inl h) = inl h
first_of_two b k n z m (inr h) = inr (first_stands_at k n z m h)

pub pair_to : (b : Skeleton) (n : Next) (a z : Point) (m : Option Tag) → FollowsIn b n a z m → StandsIn b z ⊎ ((z, m) ≡ n)
pair_to nil n a z m h = absurd h
pair_to (act t k) n a z m (inl h) = go (first_stands_at k n z m h.1)
  where
    go : StandsIn k z ⊎ ((z, m) ≡ n) → StandsIn (act t k) z ⊎ ((z, m) ≡ n)
    go (inl x) = inl (inr x)
    go (inr x) = inr x
pair_to (act t k) n a z m (inr h) = go (pair_to k n a z m h)
  where
    go : StandsIn k z ⊎ ((z, m) ≡ n) → StandsIn (act t k) z ⊎ ((z, m) ≡ n)
    go (inl x) = inl (inr x)
    go (inr x) = inr x
pair_to (fork t b c k) n a z m (inl h) = go h.1
  where
    one_of : StandsIn k z ⊎ ((z, m) ≡ n) → StandsIn (fork t b c k) z ⊎ ((z, m) ≡ n)
    one_of (inl x) = inl (inr (inr (inr x)))
    one_of (inr x) = inr x

    in_b : StandsIn b z ⊎ (StandsIn k z ⊎ ((z, m) ≡ n)) → StandsIn (fork t b c k) z ⊎ ((z, m) ≡ n)
    in_b (inl x) = inl (inr (inl x))
    in_b (inr x) = one_of x

    in_c : StandsIn c z ⊎ (StandsIn k z ⊎ ((z, m) ≡ n)) → StandsIn (fork t b c k) z ⊎ ((z, m) ≡ n)
    in_c (inl x) = inl (inr (inr (inl x)))
    in_c (inr x) = one_of x

    go : ((z, m) ≡ first_of b (first_of k n)) ⊎ ((z, m) ≡ first_of c (first_of k n)) → StandsIn (fork t b c k) z ⊎ ((z, m) ≡ n)
    go (inl x) = in_b (first_of_two b k n z m (first_stands_at b (first_of k n) z m x))
    go (inr x) = in_c (first_of_two c k n z m (first_stands_at c (first_of k n) z m x))
pair_to (fork t b c k) n a z m (inr (inl h)) = go (first_of_two b k n z m (pair_to b (first_of k n) a z m h))
  where
    go : StandsIn b z ⊎ (StandsIn k z ⊎ ((z, m) ≡ n)) → StandsIn (fork t b c k) z ⊎ ((z, m) ≡ n)
    go (inl x) = inl (inr (inl x))
    go (inr (inl x)) = inl (inr (inr (inr x)))
    go (inr (inr x)) = inr x
pair_to (fork t b c k) n a z m (inr (inr (inl h))) = go (first_of_two c k n z m (pair_to c (first_of k n) a z m h))
  where
    go : StandsIn c z ⊎ (StandsIn k z ⊎ ((z, m) ≡ n)) → StandsIn (fork t b c k) z ⊎ ((z, m) ≡ n)
    go (inl x) = inl (inr (inr (inl x)))
    go (inr (inl x)) = inl (inr (inr (inr x)))
    go (inr (inr x)) = inr x
pair_to (fork t b c k) n a z m (inr (inr (inr h))) = go (pair_to k n a z m h)
  where
    go : StandsIn k z ⊎ ((z, m) ≡ n) → StandsIn (fork t b c k) z ⊎ ((z, m) ≡ n)
    go (inl x) = inl (inr (inr (inr x)))
    go (inr x) = inr x
pair_to (round t b k) n a z m (inl h) = go h.1
  where
    in_b : StandsIn b z ⊎ (◌≡◌ {A = Next} (z, m) (at t, Some t)) → StandsIn (round t b k) z ⊎ ((z, m) ≡ n)
    in_b (inl x) = inl (inr (inl x))
    in_b (inr x) = inl (inl (ap (λ y. y.0) x))

    in_k : StandsIn k z ⊎ ((z, m) ≡ n) → StandsIn (round t b k) z ⊎ ((z, m) ≡ n)
    in_k (inl x) = inl (inr (inr x))
    in_k (inr x) = inr x

    go : ((z, m) ≡ first_of b (at t, Some t)) ⊎ ((z, m) ≡ first_of k n) → StandsIn (round t b k) z ⊎ ((z, m) ≡ n)
    go (inl x) = in_b (first_stands_at b (at t, Some t) z m x)
    go (inr x) = in_k (first_stands_at k n z m x)
pair_to (round t b k) n a z m (inr (inl h)) = go (pair_to b (at t, Some t) a z m h)
  where
    go : StandsIn b z ⊎ (◌≡◌ {A = Next} (z, m) (at t, Some t)) → StandsIn (round t b k) z ⊎ ((z, m) ≡ n)
    go (inl x) = inl (inr (inl x))
    go (inr x) = inl (inl (ap (λ y. y.0) x))
pair_to (round t b k) n a z m (inr (inr h)) = go (pair_to k n a z m h)
  where
    go : StandsIn k z ⊎ ((z, m) ≡ n) → StandsIn (round t b k) z ⊎ ((z, m) ≡ n)
    go (inl x) = inl (inr (inr x))
    go (inr x) = inr x

-- whether a point stands in a block
abbrev tag_at : Point → Tag
tag_at (at t) = t
tag_at _ = record { author = 0; serial = 0 }

abbrev IsPart : Point → Type 0
IsPart (at t) = Unit {0}
IsPart _ = ⊥

is_at? : (p : Point) (t : Tag) → Dec (p ≡ at t)
is_at? (at s) t = go (tag_discrete s t)
  where
    go : Dec (s ≡ t) → Dec (at s ≡ at t)
    go (yes e) = yes (ap at e)
    go (no n) = no (λ e. n (ap tag_at e))
is_at? enter t = no (λ e. subst IsPart (sym e) tt)
is_at? exit t = no (λ e. subst IsPart (sym e) tt)

pub or? : {A B : Type 0} → Dec A → Dec B → Dec (A ⊎ B)
or? (yes a) _ = yes (inl a)
or? (no a) (yes b) = yes (inr b)
or? {A = A} {B = B} (no a) (no b) = no go
  where
    go : A ⊎ B → ⊥
    go (inl x) = a x
    go (inr x) = b x

pub stands_in? : (b : Skeleton) (p : Point) → Dec (StandsIn b p)
stands_in? nil p = no (λ h. h)
stands_in? (act t k) p = or? (is_at? p t) (stands_in? k p)
stands_in? (fork t b c k) p = or? (is_at? p t) (or? (stands_in? b p) (or? (stands_in? c p) (stands_in? k p)))
stands_in? (round t b k) p = or? (is_at? p t) (or? (stands_in? b p) (stands_in? k p))

-- what follows a block is no part of it
abbrev pub IsOutside : Next → Skeleton → Type 0
IsOutside n b = ¬ StandsIn b n.0

-- a pair that begins in a block inside is one of that block
pub pair_after_act : (t : Tag) (k : Skeleton) (n : Next) → ¬ StandsIn k (at t) → (a z : Point) (m : Option Tag) → FollowsIn (act t k) n a z m → StandsIn k a → FollowsIn k n a z m
pair_after_act t k n nt a z m (inl h) i = absurd (nt (subst (StandsIn k) h.0 i))
pair_after_act t k n nt a z m (inr h) i = h

pub pair_after_round : (t : Tag) (b k : Skeleton) (n : Next) → Distinct (round t b k) → (a z : Point) (m : Option Tag) → FollowsIn (round t b k) n a z m → StandsIn k a → FollowsIn k n a z m
pair_after_round t b k n d a z m (inl h) i = absurd (d.1 (subst (StandsIn k) h.0 i))
pair_after_round t b k n d a z m (inr (inl h)) i = absurd (d.2 a (pair_from b (at t, Some t) a z m h) i)
pair_after_round t b k n d a z m (inr (inr h)) i = h

pub pair_in_body : (t : Tag) (b k : Skeleton) (n : Next) → Distinct (round t b k) → (a z : Point) (m : Option Tag) → FollowsIn (round t b k) n a z m → StandsIn b a → FollowsIn b (at t, Some t) a z m
pair_in_body t b k n d a z m (inl h) i = absurd (d.0 (subst (StandsIn b) h.0 i))
pair_in_body t b k n d a z m (inr (inl h)) i = h
pair_in_body t b k n d a z m (inr (inr h)) i = absurd (d.2 a i (pair_from k n a z m h))

pub pair_after_fork : (t : Tag) (b c k : Skeleton) (n : Next) → Distinct (fork t b c k) → (a z : Point) (m : Option Tag) → FollowsIn (fork t b c k) n a z m → StandsIn k a → FollowsIn k n a z m
pair_after_fork t b c k n d a z m (inl h) i = absurd (d.2 (subst (StandsIn k) h.0 i))
pair_after_fork t b c k n d a z m (inr (inl h)) i = absurd (d.4 a (pair_from b (first_of k n) a z m h) i)
pair_after_fork t b c k n d a z m (inr (inr (inl h))) i = absurd (d.5 a (pair_from c (first_of k n) a z m h) i)
pair_after_fork t b c k n d a z m (inr (inr (inr h))) i = h

pub pair_in_yes : (t : Tag) (b c k : Skeleton) (n : Next) → Distinct (fork t b c k) → (a z : Point) (m : Option Tag) → FollowsIn (fork t b c k) n a z m → StandsIn b a → FollowsIn b (first_of k n) a z m
pair_in_yes t b c k n d a z m (inl h) i = absurd (d.0 (subst (StandsIn b) h.0 i))
pair_in_yes t b c k n d a z m (inr (inl h)) i = h
pair_in_yes t b c k n d a z m (inr (inr (inl h))) i = absurd (d.3 a i (pair_from c (first_of k n) a z m h))
pair_in_yes t b c k n d a z m (inr (inr (inr h))) i = absurd (d.4 a i (pair_from k n a z m h))

pub pair_in_no : (t : Tag) (b c k : Skeleton) (n : Next) → Distinct (fork t b c k) → (a z : Point) (m : Option Tag) → FollowsIn (fork t b c k) n a z m → StandsIn c a → FollowsIn c (first_of k n) a z m
pair_in_no t b c k n d a z m (inl h) i = absurd (d.1 (subst (StandsIn c) h.0 i))
pair_in_no t b c k n d a z m (inr (inl h)) i = absurd (d.3 a (pair_from b (first_of k n) a z m h) i)
pair_in_no t b c k n d a z m (inr (inr (inl h))) i = h
pair_in_no t b c k n d a z m (inr (inr (inr h))) i = absurd (d.5 a i (pair_from k n a z m h))

-- a path in another relation that has its steps
pub narrow : {R S : Point → Point → Option Tag → Type 0} {I Stops : Point → Type 0} {a z : Point} {ms : List (Option Tag)}
    → ((a z : Point) (m : Option Tag) → R a z m → I a → S a z m) → Path (Within R I) Stops a z ms → Path S Stops a z ms
narrow f (one {a = a} {z = b} {m = m} r) = one (f a b m r.0 r.1)
narrow f (step {a = a} {b = c} {m = m} r d p) = step (f a c m r.0 r.1) d (narrow f p)

-- the first exit from a block b inside B, which nb follows
pub leaves : (B : Skeleton) (n : Next) (b : Skeleton) (nb : Next) (Stops : Point → Type 0)
    → ((a z : Point) (m : Option Tag) → FollowsIn B n a z m → StandsIn b a → FollowsIn b nb a z m)
    → (a z : Point) (ms : List (Option Tag)) → Path (FollowsIn B n) Stops a z ms → StandsIn b a
    → (StandsIn b z × Path (FollowsIn b nb) Stops a z ms) ⊎ LeavesBy (FollowsIn B n) (StandsIn b) Stops nb.0 nb.1 a z ms
leaves B n b nb Stops f a z ms p i = go (first_exit (FollowsIn B n) (StandsIn b) Stops nb.0 nb.1 (stands_in? b) out a z ms p i)
  where
    out_go : (a c : Point) (m : Option Tag) → ¬ StandsIn b c → StandsIn b c ⊎ ((c, m) ≡ nb) → (nb.0 ≡ c) × (nb.1 ≡ m)
    out_go a c m nc (inl h) = absurd (nc h)
    out_go a c m nc (inr e) = (sym (ap (λ y. y.0) e), sym (ap (λ y. y.1) e))

    out : (a c : Point) (m : Option Tag) → FollowsIn B n a c m → StandsIn b a → ¬ StandsIn b c → (nb.0 ≡ c) × (nb.1 ≡ m)
    out a c m r ia nc = out_go a c m nc (pair_to b nb a c m (f a c m r ia))

    go : (StandsIn b z × Path (Within (FollowsIn B n) (StandsIn b)) Stops a z ms) ⊎ LeavesBy (FollowsIn B n) (StandsIn b) Stops nb.0 nb.1 a z ms
        → (StandsIn b z × Path (FollowsIn b nb) Stops a z ms) ⊎ LeavesBy (FollowsIn B n) (StandsIn b) Stops nb.0 nb.1 a z ms
    go (inl h) = inl (h.0, narrow f h.1)
    go (inr h) = inr h

pub path_from : {R : Point → Point → Option Tag → Type 0} {Stops I : Point → Type 0} {a z : Point} {ms : List (Option Tag)}
    → ((a z : Point) (m : Option Tag) → R a z m → I a) → Path R Stops a z ms → I a
path_from f (one {a = a} {z = b} {m = m} r) = f a b m r
path_from f (step {a = a} {b = c} {m = m} r d p) = f a c m r

pub path_last : {R : Point → Point → Option Tag → Type 0} {Stops : Point → Type 0} {a z : Point} {ms : List (Option Tag)}
    → Path R Stops a z ms → (y : Point) × (m : Option Tag) × R y z m × Among m ms
path_last (one {a = a} {m = m} r) = (a, m, r, here)
path_last (step r d p) = let h = path_last p in (h.0, h.1, h.2, there h.3)

pub exit_mark : {R : Point → Point → Option Tag → Type 0} {I Stops : Point → Type 0} {z1 : Point} {m1 : Option Tag} {a z : Point} {ms : List (Option Tag)}
    → LeavesBy R I Stops z1 m1 a z ms → Among m1 ms
exit_mark (ends p h) = h
exit_mark (goes {ns = ns} p h d q) = among_front ns h

-- from the rest of a block one stays there, or ends at what follows
pub rest_stays : (B : Skeleton) (n : Next) (k : Skeleton) (Stops : Point → Type 0) → IsOutside n B
    → ((a z : Point) (m : Option Tag) → FollowsIn B n a z m → StandsIn k a → FollowsIn k n a z m)
    → (a z : Point) (ms : List (Option Tag)) → Path (FollowsIn B n) Stops a z ms → StandsIn k a
    → (StandsIn k z × Path (FollowsIn k n) Stops a z ms) ⊎ (z ≡ n.0)
rest_stays B n k Stops fr f a z ms p i = go (leaves B n k n Stops f a z ms p i)
  where
    end_of : (z : Point) (ms : List (Option Tag)) → LeavesBy (FollowsIn B n) (StandsIn k) Stops n.0 n.1 a z ms → z ≡ n.0
    end_of _ _ (ends p h) = refl
    end_of _ _ (goes p h d q) = absurd (fr (path_from (pair_from B n) q))

    go : (StandsIn k z × Path (FollowsIn k n) Stops a z ms) ⊎ LeavesBy (FollowsIn B n) (StandsIn k) Stops n.0 n.1 a z ms → (StandsIn k z × Path (FollowsIn k n) Stops a z ms) ⊎ (z ≡ n.0)
    go (inl h) = inl h
    go (inr x) = inr (end_of z ms x)

-- after the first exit from a branch one is in the rest, or at its end
after_branch : (B : Skeleton) (n : Next) (k b : Skeleton) (Stops : Point → Type 0) → IsOutside n B
    → ((a z : Point) (m : Option Tag) → FollowsIn B n a z m → StandsIn k a → FollowsIn k n a z m)
    → (a z : Point) (ms : List (Option Tag)) → StandsIn k (first_of k n).0 ⊎ (first_of k n ≡ n)
    → LeavesBy (FollowsIn B n) (StandsIn b) Stops (first_of k n).0 (first_of k n).1 a z ms → StandsIn k z ⊎ (z ≡ n.0)
after_branch B n k b Stops fr f a _ _ (inl i) (ends p h) = inl i
after_branch B n k b Stops fr f a _ _ (inr e) (ends p h) = inr (ap (λ y. y.0) e)
after_branch B n k b Stops fr f a z _ (inl i) (goes {ns = ns} p h d q) = go (rest_stays B n k Stops fr f (first_of k n).0 z ns q i)
  where
    go : (StandsIn k z × Path (FollowsIn k n) Stops (first_of k n).0 z ns) ⊎ (z ≡ n.0) → StandsIn k z ⊎ (z ≡ n.0)
    go (inl x) = inl x.0
    go (inr e) = inr e
after_branch B n k b Stops fr f a z _ (inr e) (goes p h d q) = absurd (fr (subst (StandsIn B) (ap (λ y. y.0) e) (path_from (pair_from B n) q)))

-- no pair of a block goes to an act or a conditional at its head
act_target : (t : Tag) (k : Skeleton) (n : Next) → Distinct (act t k) → IsOutside n (act t k) → (a z : Point) (m : Option Tag) → FollowsIn (act t k) n a z m → ¬ (z ≡ at t)
act_target t k n d fr a z m h e = go h
  where
    bad : StandsIn k z ⊎ ((z, m) ≡ n) → ⊥
    bad (inl x) = d.0 (subst (StandsIn k) e x)
    bad (inr x) = fr (inl (sym (ap (λ y. y.0) x) ∙ e))

    go : FollowsIn (act t k) n a z m → ⊥
    go (inl h) = bad (first_stands_at k n z m h.1)
    go (inr h) = bad (pair_to k n a z m h)

fork_target : (t : Tag) (b c k : Skeleton) (n : Next) → Distinct (fork t b c k) → IsOutside n (fork t b c k) → (a z : Point) (m : Option Tag)
    → FollowsIn (fork t b c k) n a z m → ¬ (z ≡ at t)
fork_target t b c k n d fr a z m h e = go h
  where
    bad : StandsIn k z ⊎ ((z, m) ≡ n) → ⊥
    bad (inl x) = d.2 (subst (StandsIn k) e x)
    bad (inr x) = fr (inl (sym (ap (λ y. y.0) x) ∙ e))

    bad_b : StandsIn b z ⊎ ((z, m) ≡ first_of k n) → ⊥
    bad_b (inl x) = d.0 (subst (StandsIn b) e x)
    bad_b (inr x) = bad (first_stands_at k n z m x)

    bad_c : StandsIn c z ⊎ ((z, m) ≡ first_of k n) → ⊥
    bad_c (inl x) = d.1 (subst (StandsIn c) e x)
    bad_c (inr x) = bad (first_stands_at k n z m x)

    first : ((z, m) ≡ first_of b (first_of k n)) ⊎ ((z, m) ≡ first_of c (first_of k n)) → ⊥
    first (inl x) = bad_b (first_stands_at b (first_of k n) z m x)
    first (inr x) = bad_c (first_stands_at c (first_of k n) z m x)

    go : FollowsIn (fork t b c k) n a z m → ⊥
    go (inl h) = first h.1
    go (inr (inl h)) = bad_b (pair_to b (first_of k n) a z m h)
    go (inr (inr (inl h))) = bad_c (pair_to c (first_of k n) a z m h)
    go (inr (inr (inr h))) = bad (pair_to k n a z m h)

-- a pair to a loop at the head of its block is its back edge
round_target : (t : Tag) (b k : Skeleton) (n : Next) → Distinct (round t b k) → IsOutside n (round t b k) → (a z : Point) (m : Option Tag)
    → FollowsIn (round t b k) n a z m → z ≡ at t → Some t ≡ m
round_target t b k n d fr a z m h e = go h
  where
    bad : StandsIn k z ⊎ ((z, m) ≡ n) → Some t ≡ m
    bad (inl x) = absurd (d.1 (subst (StandsIn k) e x))
    bad (inr x) = absurd (fr (inl (sym (ap (λ y. y.0) x) ∙ e)))

    good : StandsIn b z ⊎ (◌≡◌ {A = Next} (z, m) (at t, Some t)) → Some t ≡ m
    good (inl x) = absurd (d.0 (subst (StandsIn b) e x))
    good (inr x) = sym (ap (λ y. y.1) x)

    first : ((z, m) ≡ first_of b (at t, Some t)) ⊎ ((z, m) ≡ first_of k n) → Some t ≡ m
    first (inl x) = good (first_stands_at b (at t, Some t) z m x)
    first (inr x) = bad (first_stands_at k n z m x)

    go : FollowsIn (round t b k) n a z m → Some t ≡ m
    go (inl h) = first h.1
    go (inr (inl h)) = good (pair_to b (at t, Some t) a z m h)
    go (inr (inr h)) = bad (pair_to k n a z m h)

abbrev pub NoneEncloses : Skeleton → Point → Point → List (Option Tag) → Type 0
NoneEncloses B d u ms = (w : Tag) → Among (Some w) ms → ¬ EnclosesBoth B d u w

-- a path that takes no back edge to a loop around both ends goes ahead
pub goes_ahead : (B : Skeleton) (n : Next) (Stops : Point → Type 0) → Distinct B → IsOutside n B → (d u : Point) (ms : List (Option Tag))
    → Path (FollowsIn B n) Stops d u ms → StandsIn B d → StandsIn B u → NoneEncloses B d u ms → StandsAhead B d u
goes_ahead nil n Stops di fr d u ms p id iu calm = absurd id
goes_ahead (act t k) n Stops di fr d u ms p id (inl e) calm =
    let h = path_last p in absurd (act_target t k n di fr h.0 u h.1 h.2 e)
goes_ahead (act t k) n Stops di fr d u ms p (inl e) (inr iu) calm = inl (e, iu)
goes_ahead (act t k) n Stops di fr d u ms p (inr id) (inr iu) calm =
    inr (go (λ q. goes_ahead k n Stops di.1 (λ x. fr (inr x)) d u ms q id iu calm) (rest_stays (act t k) n k Stops fr (pair_after_act t k n di.0) d u ms p id))
  where
    go : (Path (FollowsIn k n) Stops d u ms → StandsAhead k d u) → (StandsIn k u × Path (FollowsIn k n) Stops d u ms) ⊎ (u ≡ n.0) → StandsAhead k d u
    go f (inl x) = f x.1
    go f (inr e) = absurd (fr (subst (StandsIn (act t k)) e (inr iu)))
goes_ahead (fork t b c k) n Stops di fr d u ms p id (inl e) calm =
    let h = path_last p in absurd (fork_target t b c k n di fr h.0 u h.1 h.2 e)
goes_ahead (fork t b c k) n Stops di fr d u ms p (inl e) (inr iu) calm = inl (e, iu)
goes_ahead (fork t b c k) n Stops di fr d u ms p (inr (inl id)) (inr (inr (inr iu))) calm = inr (inl (inl id, iu))
goes_ahead (fork t b c k) n Stops di fr d u ms p (inr (inr (inl id))) (inr (inr (inr iu))) calm = inr (inl (inr id, iu))
goes_ahead (fork t b c k) n Stops di fr d u ms p (inr (inl id)) (inr (inl iu)) calm =
    inr (inr (inl (ahead_in b (λ q. goes_ahead b (first_of k n) Stops di.6 (λ x. fresh_b x (first_stands k n)) d u ms q id iu (λ w h x. calm w h (inl x)))
    (leaves (fork t b c k) n b (first_of k n) Stops (pair_in_yes t b c k n di) d u ms p id))))
  where
    fresh_b : StandsIn b (first_of k n).0 → StandsIn k (first_of k n).0 ⊎ (first_of k n ≡ n) → ⊥
    fresh_b x (inl y) = di.4 (first_of k n).0 x y
    fresh_b x (inr e) = fr (inr (inl (subst (StandsIn b) (ap (λ y. y.0) e) x)))

    out : StandsIn k u ⊎ (u ≡ n.0) → ⊥
    out (inl y) = di.4 u iu y
    out (inr e) = fr (inr (inl (subst (StandsIn b) e iu)))

    ahead_in : (b' : Skeleton) → (Path (FollowsIn b (first_of k n)) Stops d u ms → StandsAhead b d u)
        → (StandsIn b u × Path (FollowsIn b (first_of k n)) Stops d u ms) ⊎ LeavesBy (FollowsIn (fork t b c k) n) (StandsIn b) Stops (first_of k n).0 (first_of k n).1 d u ms → StandsAhead b d u
    ahead_in _ f (inl x) = f x.1
    ahead_in _ f (inr x) = absurd (out (after_branch (fork t b c k) n k b Stops fr (pair_after_fork t b c k n di) d u ms (first_stands k n) x))
goes_ahead (fork t b c k) n Stops di fr d u ms p (inr (inl id)) (inr (inr (inl iu))) calm =
    absurd (go (leaves (fork t b c k) n b (first_of k n) Stops (pair_in_yes t b c k n di) d u ms p id))
  where
    out : StandsIn k u ⊎ (u ≡ n.0) → ⊥
    out (inl y) = di.5 u iu y
    out (inr e) = fr (inr (inr (inl (subst (StandsIn c) e iu))))

    go : (StandsIn b u × Path (FollowsIn b (first_of k n)) Stops d u ms) ⊎ LeavesBy (FollowsIn (fork t b c k) n) (StandsIn b) Stops (first_of k n).0 (first_of k n).1 d u ms → ⊥
    go (inl x) = di.3 u x.0 iu
    go (inr x) = out (after_branch (fork t b c k) n k b Stops fr (pair_after_fork t b c k n di) d u ms (first_stands k n) x)
goes_ahead (fork t b c k) n Stops di fr d u ms p (inr (inr (inl id))) (inr (inr (inl iu))) calm =
    inr (inr (inr (inl (ahead_in (λ q. goes_ahead c (first_of k n) Stops di.7 (λ x. fresh_c x (first_stands k n)) d u ms q id iu (λ w h x. calm w h (inr (inl x))))
    (leaves (fork t b c k) n c (first_of k n) Stops (pair_in_no t b c k n di) d u ms p id)))))
  where
    fresh_c : StandsIn c (first_of k n).0 → StandsIn k (first_of k n).0 ⊎ (first_of k n ≡ n) → ⊥
    fresh_c x (inl y) = di.5 (first_of k n).0 x y
    fresh_c x (inr e) = fr (inr (inr (inl (subst (StandsIn c) (ap (λ y. y.0) e) x))))

    out : StandsIn k u ⊎ (u ≡ n.0) → ⊥
    out (inl y) = di.5 u iu y
    out (inr e) = fr (inr (inr (inl (subst (StandsIn c) e iu))))

    ahead_in : (Path (FollowsIn c (first_of k n)) Stops d u ms → StandsAhead c d u)
        → (StandsIn c u × Path (FollowsIn c (first_of k n)) Stops d u ms) ⊎ LeavesBy (FollowsIn (fork t b c k) n) (StandsIn c) Stops (first_of k n).0 (first_of k n).1 d u ms → StandsAhead c d u
    ahead_in f (inl x) = f x.1
    ahead_in f (inr x) = absurd (out (after_branch (fork t b c k) n k c Stops fr (pair_after_fork t b c k n di) d u ms (first_stands k n) x))
goes_ahead (fork t b c k) n Stops di fr d u ms p (inr (inr (inl id))) (inr (inl iu)) calm =
    absurd (go (leaves (fork t b c k) n c (first_of k n) Stops (pair_in_no t b c k n di) d u ms p id))
  where
    out : StandsIn k u ⊎ (u ≡ n.0) → ⊥
    out (inl y) = di.4 u iu y
    out (inr e) = fr (inr (inl (subst (StandsIn b) e iu)))

    go : (StandsIn c u × Path (FollowsIn c (first_of k n)) Stops d u ms) ⊎ LeavesBy (FollowsIn (fork t b c k) n) (StandsIn c) Stops (first_of k n).0 (first_of k n).1 d u ms → ⊥
    go (inl x) = di.3 u iu x.0
    go (inr x) = out (after_branch (fork t b c k) n k c Stops fr (pair_after_fork t b c k n di) d u ms (first_stands k n) x)
goes_ahead (fork t b c k) n Stops di fr d u ms p (inr (inr (inr id))) (inr iu) calm =
    inr (inr (inr (inr (go (λ q i. goes_ahead k n Stops di.8 (λ x. fr (inr (inr (inr x)))) d u ms q id i (λ w h x. calm w h (inr (inr x))))
    (rest_stays (fork t b c k) n k Stops fr (pair_after_fork t b c k n di) d u ms p id)))))
  where
    go : (Path (FollowsIn k n) Stops d u ms → StandsIn k u → StandsAhead k d u) → (StandsIn k u × Path (FollowsIn k n) Stops d u ms) ⊎ (u ≡ n.0) → StandsAhead k d u
    go f (inl x) = f x.1 x.0
    go f (inr e) = absurd (fr (subst (StandsIn (fork t b c k)) e (inr iu)))
goes_ahead (round t b k) n Stops di fr d u ms p (inl e) (inl g) calm =
    let h = path_last p in
    absurd (calm t (subst (λ y. Among y ms) (sym (round_target t b k n di fr h.0 u h.1 h.2 g)) h.3) (inl (refl, inl e, inl g)))
goes_ahead (round t b k) n Stops di fr d u ms p (inl e) (inr iu) calm = inl (e, iu)
goes_ahead (round t b k) n Stops di fr d u ms p (inr (inl id)) (inl g) calm =
    let h = path_last p in
    absurd (calm t (subst (λ y. Among y ms) (sym (round_target t b k n di fr h.0 u h.1 h.2 g)) h.3) (inl (refl, inr id, inl g)))
goes_ahead (round t b k) n Stops di fr d u ms p (inr (inl id)) (inr (inr iu)) calm = inr (inl (id, iu))
goes_ahead (round t b k) n Stops di fr d u ms p (inr (inl id)) (inr (inl iu)) calm =
    inr (inr (inl (go (λ q. goes_ahead b (at t, Some t) Stops di.3 di.0 d u ms q id iu (λ w h x. calm w h (inr (inl x))))
    (leaves (round t b k) n b (at t, Some t) Stops (pair_in_body t b k n di) d u ms p id))))
  where
    go : (Path (FollowsIn b (at t, Some t)) Stops d u ms → StandsAhead b d u)
        → (StandsIn b u × Path (FollowsIn b (at t, Some t)) Stops d u ms) ⊎ LeavesBy (FollowsIn (round t b k) n) (StandsIn b) Stops (at t) (Some t) d u ms → StandsAhead b d u
    go f (inl x) = f x.1
    go f (inr x) = absurd (calm t (exit_mark x) (inl (refl, inr id, inr iu)))
goes_ahead (round t b k) n Stops di fr d u ms p (inr (inr id)) iu calm =
    inr (inr (inr (go (λ q i. goes_ahead k n Stops di.4 (λ x. fr (inr (inr x))) d u ms q id i (λ w h x. calm w h (inr (inr x))))
    (rest_stays (round t b k) n k Stops fr (pair_after_round t b k n di) d u ms p id))))
  where
    go : (Path (FollowsIn k n) Stops d u ms → StandsIn k u → StandsAhead k d u) → (StandsIn k u × Path (FollowsIn k n) Stops d u ms) ⊎ (u ≡ n.0) → StandsAhead k d u
    go f (inl x) = f x.1 x.0
    go f (inr e) = absurd (fr (subst (StandsIn (round t b k)) e iu))
