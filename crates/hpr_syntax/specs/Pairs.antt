-- The pairs of points of a program: which point may follow which.
--
-- Next                 == a point, and the loop to which the way there is the back edge, if it is one
-- first_of sk next     == the first part of a block, or what follows the block where it is empty
-- FollowsIn sk next a z mark == z follows the part a of a block that next follows; the mark is the loop whose
--                               back edge this is, if it is one
-- IsPair body a z mark == z follows a in the program, from Enter to Exit
use Rattle.std.specs.Prelude.{◌≡◌, ◌⊎◌, Option, Some, None}
use Rattle.hpr_terms.specs.declared.tag.Tag.{Tag}
use Rattle.hpr_syntax.specs.Body.{Body}
use Rattle.hpr_syntax.specs.Skeleton.{Skeleton, nil, act, fork, round, Point, enter, at, exit, skeleton}

abbrev pub Next : Type 0
Next = Point × Option Tag

abbrev pub first_of : Skeleton → Next → Next
first_of nil n = n
first_of (act t k) n = (at t, None)
first_of (fork t b c k) n = (at t, None)
first_of (round t b k) n = (at t, None)

-- After the last part of a loop's body its predicate follows, by a back edge to that loop.
abbrev pub FollowsIn : Skeleton → Next → Point → Point → Option Tag → Type 0
FollowsIn nil n a z m = ⊥
FollowsIn (act t k) n a z m = ((a ≡ at t) × ((z, m) ≡ first_of k n)) ⊎ FollowsIn k n a z m
FollowsIn (fork t b c k) n a z m =
    ((a ≡ at t) × (((z, m) ≡ first_of b (first_of k n)) ⊎ ((z, m) ≡ first_of c (first_of k n))))
    ⊎ (FollowsIn b (first_of k n) a z m ⊎ (FollowsIn c (first_of k n) a z m ⊎ FollowsIn k n a z m))
FollowsIn (round t b k) n a z m =
    ((a ≡ at t) × (((z, m) ≡ first_of b (at t, Some t)) ⊎ ((z, m) ≡ first_of k n)))
    ⊎ (FollowsIn b (at t, Some t) a z m ⊎ FollowsIn k n a z m)

abbrev pub IsPair : Body → Point → Point → Option Tag → Type 0
IsPair p a z m = ((a ≡ enter) × ((z, m) ≡ first_of (skeleton p) (exit, None))) ⊎ FollowsIn (skeleton p) (exit, None) a z m
