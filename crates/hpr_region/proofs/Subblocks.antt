-- Blocks inside a skeleton, each with what follows it: rests, branches, bodies, and those inside them. A path comes into one by its first
-- part alone; so a definition at its head disturbs each path that comes from outside.
use Rattle.std.proofs.Common.{◌≡◌, List, ◌⊎◌, Option, Some, refl, sym, subst, ◌∙◌, inl, inr}
use Rattle.hpr_terms.specs.declared.tag.Tag.{Tag}
use Rattle.hpr_syntax.specs.Paths.{Path}
use Rattle.hpr_syntax.specs.Pairs.{Next, first_of, FollowsIn}
use Rattle.hpr_syntax.specs.Places.{StandsLeft}
use Rattle.hpr_syntax.specs.Skeleton.{Skeleton, act, fork, round, Point, at, StandsIn, Distinct}
use Rattle.hpr_paths.proofs.Ahead.{StandsAhead, IsOutside, stands_in?, pair_from}
use Rattle.hpr_paths.proofs.DirectWays.{Inner, inner_after_act, inner_after_fork, inner_yes, inner_no, inner_body, inner_after_round}
use Rattle.hpr_paths.proofs.Regions.{Within, FromFirst, last_entry}

-- b is a block inside B, or B itself: m follows b where n follows B
pub data Subblock (b : Skeleton) (m : Next) : Skeleton → Next → Type 0 where
  whole : Subblock b m b m
  after_act : {t : Tag} {k : Skeleton} {n : Next} → Subblock b m k n → Subblock b m (act t k) n
  in_yes : {t : Tag} {x y k : Skeleton} {n : Next} → Subblock b m x (first_of k n) → Subblock b m (fork t x y k) n
  in_no : {t : Tag} {x y k : Skeleton} {n : Next} → Subblock b m y (first_of k n) → Subblock b m (fork t x y k) n
  after_fork : {t : Tag} {x y k : Skeleton} {n : Next} → Subblock b m k n → Subblock b m (fork t x y k) n
  in_body : {t : Tag} {x k : Skeleton} {n : Next} → Subblock b m x (at t, Some t) → Subblock b m (round t x k) n
  after_round : {t : Tag} {x k : Skeleton} {n : Next} → Subblock b m k n → Subblock b m (round t x k) n

pub sub_in : {b : Skeleton} {m : Next} {B : Skeleton} {n : Next} → Subblock b m B n → (p : Point) → StandsIn b p → StandsIn B p
sub_in whole p i = i
sub_in (after_act h) p i = inr (sub_in h p i)
sub_in (in_yes h) p i = inr (inl (sub_in h p i))
sub_in (in_no h) p i = inr (inr (inl (sub_in h p i)))
sub_in (after_fork h) p i = inr (inr (inr (sub_in h p i)))
sub_in (in_body h) p i = inr (inl (sub_in h p i))
sub_in (after_round h) p i = inr (inr (sub_in h p i))

pub sub_pairs : {b : Skeleton} {m : Next} {B : Skeleton} {n : Next} → Subblock b m B n → (a z : Point) (k : Option Tag) → FollowsIn b m a z k → FollowsIn B n a z k
sub_pairs whole a z k r = r
sub_pairs (after_act h) a z k r = inr (sub_pairs h a z k r)
sub_pairs (in_yes h) a z k r = inr (inl (sub_pairs h a z k r))
sub_pairs (in_no h) a z k r = inr (inr (inl (sub_pairs h a z k r)))
sub_pairs (after_fork h) a z k r = inr (inr (inr (sub_pairs h a z k r)))
sub_pairs (in_body h) a z k r = inr (inl (sub_pairs h a z k r))
sub_pairs (after_round h) a z k r = inr (inr (sub_pairs h a z k r))

pub sub_left : {b : Skeleton} {m : Next} {B : Skeleton} {n : Next} → Subblock b m B n → (d u : Point) → StandsLeft b d u → StandsLeft B d u
sub_left whole d u l = l
sub_left (after_act h) d u l = inr (sub_left h d u l)
sub_left (in_yes h) d u l = inr (inr (inr (inl (sub_left h d u l))))
sub_left (in_no h) d u l = inr (inr (inr (inr (inl (sub_left h d u l)))))
sub_left (after_fork h) d u l = inr (inr (inr (inr (inr (sub_left h d u l)))))
sub_left (in_body h) d u l = inr (inr (inl (sub_left h d u l)))
sub_left (after_round h) d u l = inr (inr (inr (sub_left h d u l)))

pub sub_ahead : {b : Skeleton} {m : Next} {B : Skeleton} {n : Next} → Subblock b m B n → (d u : Point) → StandsAhead b d u → StandsAhead B d u
sub_ahead whole d u l = l
sub_ahead (after_act h) d u l = inr (sub_ahead h d u l)
sub_ahead (in_yes h) d u l = inr (inr (inl (sub_ahead h d u l)))
sub_ahead (in_no h) d u l = inr (inr (inr (inl (sub_ahead h d u l))))
sub_ahead (after_fork h) d u l = inr (inr (inr (inr (sub_ahead h d u l))))
sub_ahead (in_body h) d u l = inr (inr (inl (sub_ahead h d u l)))
sub_ahead (after_round h) d u l = inr (inr (inr (sub_ahead h d u l)))

pub sub_distinct : {b : Skeleton} {m : Next} {B : Skeleton} {n : Next} → Subblock b m B n → Distinct B → Distinct b
sub_distinct whole di = di
sub_distinct (after_act h) di = sub_distinct h di.1
sub_distinct (in_yes h) di = sub_distinct h di.6
sub_distinct (in_no h) di = sub_distinct h di.7
sub_distinct (after_fork h) di = sub_distinct h di.8
sub_distinct (in_body h) di = sub_distinct h di.3
sub_distinct (after_round h) di = sub_distinct h di.4

-- a block inside that has the first part begins with it
pub sub_first : {b : Skeleton} {m : Next} {B : Skeleton} {n : Next} → Subblock b m B n → Distinct B → StandsIn b (first_of B n).0 → (first_of b m).0 ≡ (first_of B n).0
sub_first whole di i = refl
sub_first (after_act {t = t} h) di i = absurd (di.0 (sub_in h (at t) i))
sub_first (in_yes {t = t} h) di i = absurd (di.0 (sub_in h (at t) i))
sub_first (in_no {t = t} h) di i = absurd (di.1 (sub_in h (at t) i))
sub_first (after_fork {t = t} h) di i = absurd (di.2 (sub_in h (at t) i))
sub_first (in_body {t = t} h) di i = absurd (di.0 (sub_in h (at t) i))
sub_first (after_round {t = t} h) di i = absurd (di.1 (sub_in h (at t) i))

-- in a block x of B
deeper : {b : Skeleton} {m : Next} (B : Skeleton) (n : Next) (x : Skeleton) (nx : Next) → Inner B n x nx → Distinct x → Subblock b m x nx
    → ((a z : Point) (k : Option Tag) → FollowsIn x nx a z k → ¬ StandsIn b a → StandsIn b z → (first_of b m).0 ≡ z)
    → (a z : Point) (k : Option Tag) → FollowsIn B n a z k → ¬ StandsIn b a → StandsIn b z → Dec (StandsIn x a) → (first_of b m).0 ≡ z
deeper {b} {m} B n x nx s dx h ih a z k r na iz (yes ia) = ih a z k (s.inwards a z k r ia) na iz
deeper {b} {m} B n x nx s dx h ih a z k r na iz (no nx_) =
    let e = s.by_first a z k r nx_ (sub_in h z iz) in
    sub_first h dx (subst (StandsIn b) (sym e) iz) ∙ e

-- a pair that leads into a block inside leads to its first part
pub sub_entry : {b : Skeleton} {m : Next} {B : Skeleton} {n : Next} → Subblock b m B n → Distinct B → IsOutside n B
    → (a z : Point) (k : Option Tag) → FollowsIn B n a z k → ¬ StandsIn b a → StandsIn b z → (first_of b m).0 ≡ z
sub_entry {b} {m = m} whole di fr a z k r na iz = absurd (na (pair_from b m a z k r))
sub_entry (after_act {t = t} {k = x} {n = n} h) di fr a z k r na iz =
    let s = inner_after_act t x n di fr in
    deeper (act t x) n x n s di.1 h (sub_entry h di.1 s.outside) a z k r na iz (stands_in? x a)
sub_entry (in_yes {t = t} {x = x} {y = y} {k = q} {n = n} h) di fr a z k r na iz =
    let s = inner_yes t x y q n di fr in
    deeper (fork t x y q) n x (first_of q n) s di.6 h (sub_entry h di.6 s.outside) a z k r na iz (stands_in? x a)
sub_entry (in_no {t = t} {x = x} {y = y} {k = q} {n = n} h) di fr a z k r na iz =
    let s = inner_no t x y q n di fr in
    deeper (fork t x y q) n y (first_of q n) s di.7 h (sub_entry h di.7 s.outside) a z k r na iz (stands_in? y a)
sub_entry (after_fork {t = t} {x = x} {y = y} {k = q} {n = n} h) di fr a z k r na iz =
    let s = inner_after_fork t x y q n di fr in
    deeper (fork t x y q) n q n s di.8 h (sub_entry h di.8 s.outside) a z k r na iz (stands_in? q a)
sub_entry (in_body {t = t} {x = x} {k = q} {n = n} h) di fr a z k r na iz =
    let s = inner_body t x q n di fr in
    deeper (round t x q) n x (at t, Some t) s di.3 h (sub_entry h di.3 s.outside) a z k r na iz (stands_in? x a)
sub_entry (after_round {t = t} {x = x} {k = q} {n = n} h) di fr a z k r na iz =
    let s = inner_after_round t x q n di fr in
    deeper (round t x q) n q n s di.4 h (sub_entry h di.4 s.outside) a z k r na iz (stands_in? q a)

-- c stops paths and heads a block inside: no path leads from outside the block to what stands behind c in it, whichever way it goes round
pub no_way_past : (B : Skeleton) (n : Next) (Stops : Point → Type 0) → Distinct B → IsOutside n B → (c : Tag) (k : Skeleton) (m : Next) → Subblock (act c k) m B n → Stops (at c)
    → (d u : Point) (ms : List (Option Tag)) → ¬ StandsIn (act c k) d → StandsIn k u → Path (FollowsIn B n) Stops d u ms → ⊥
no_way_past B n Stops di fr c k m h stops d u ms nd iu p =
    go (last_entry (FollowsIn B n) (StandsIn (act c k)) Stops (at c) (stands_in? (act c k)) (sub_entry h di fr) d u ms p (inr iu))
  where
    go : (StandsIn (act c k) d × Path (Within (FollowsIn B n) (StandsIn (act c k))) Stops d u ms) ⊎ FromFirst (FollowsIn B n) (StandsIn (act c k)) Stops (at c) u → ⊥
    go (inl x) = nd x.0
    go (inr (inl e)) = (sub_distinct h di).0 (subst (StandsIn k) (sym e) iu)
    go (inr (inr x)) = x.1 stops
