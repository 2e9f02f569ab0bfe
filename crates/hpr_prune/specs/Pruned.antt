-- What is left of a block where parts are taken out, each with all that stands in it.
--
-- Pruned Keeps sk rest == rest is the skeleton sk without the parts that aren't kept; in a part that isn't
--                         kept nothing is kept
-- IsKept Keeps p       == the point p is left: Enter, Exit, or a part that is kept
-- Pairs sk a z mark    == z follows a in the program whose skeleton is sk
use Rattle.std.specs.Prelude.{◌≡◌, ◌⊎◌, Option, None}
use Rattle.hpr_terms.specs.declared.tag.Tag.{Tag}
use Rattle.hpr_syntax.specs.Skeleton.{Skeleton, nil, act, fork, round, Point, enter, at, exit}
use Rattle.hpr_syntax.specs.Pairs.{first_of, FollowsIn}

pub data Pruned (Keeps : Tag → Type 0) : Skeleton → Skeleton → Type 0 where
  empty : Pruned Keeps nil nil
  act_kept : {t : Tag} {k k' : Skeleton} → Keeps t → Pruned Keeps k k' → Pruned Keeps (act t k) (act t k')
  act_out : {t : Tag} {k k' : Skeleton} → ¬ Keeps t → Pruned Keeps k k' → Pruned Keeps (act t k) k'
  fork_kept : {t : Tag} {b b' c c' k k' : Skeleton} → Keeps t → Pruned Keeps b b' → Pruned Keeps c c' → Pruned Keeps k k'
      → Pruned Keeps (fork t b c k) (fork t b' c' k')
  fork_out : {t : Tag} {b c k k' : Skeleton} → ¬ Keeps t → Pruned Keeps b nil → Pruned Keeps c nil → Pruned Keeps k k'
      → Pruned Keeps (fork t b c k) k'
  round_kept : {t : Tag} {b b' k k' : Skeleton} → Keeps t → Pruned Keeps b b' → Pruned Keeps k k' → Pruned Keeps (round t b k) (round t b' k')
  round_out : {t : Tag} {b k k' : Skeleton} → ¬ Keeps t → Pruned Keeps b nil → Pruned Keeps k k' → Pruned Keeps (round t b k) k'

abbrev pub IsKept : (Tag → Type 0) → Point → Type 0
IsKept Keeps enter = Unit {0}
IsKept Keeps (at t) = Keeps t
IsKept Keeps exit = Unit {0}

abbrev pub Pairs : Skeleton → Point → Point → Option Tag → Type 0
Pairs sk a z m = ((a ≡ enter) × ((z, m) ≡ first_of sk (exit, None))) ⊎ FollowsIn sk (exit, None) a z m
