-- The order of two places between which a path leads: their turns on the loops around both, then whether a direct way leads there. So
-- two programs with the same ways have the same order.
use Rattle.hpr_terms.specs.declared.tag.Tag.{Tag}
use Rattle.std.proofs.Common.{ℕ, List, ◌⊎◌, ◌↔◌, Option, inl, inr}
use Rattle.hpr_syntax.specs.Paths.{Path}
use Rattle.hpr_syntax.specs.Skeleton.{Skeleton, Point, at, StandsIn, Distinct}
use Rattle.hpr_syntax.specs.Pairs.{Next, FollowsIn}
use Rattle.hpr_paths.proofs.Ahead.{StandsAhead, IsOutside, goes_ahead}
use Rattle.hpr_paths.proofs.DirectWays.{OnlyActsStop, DirectWay, direct_way}
use Rattle.hpr_paths.specs.Times.{Place, ComesBefore, HaveLessTurns, HaveSameTurns}
use Rattle.hpr_paths.proofs.TimeOrder.{HaveCommon, by_turns, before_by_turns}

abbrev pub HasPath : Skeleton → Next → (Point → Type 0) → Point → Point → Type 0
HasPath B n Stops d u = (ms : List (Option Tag)) × Path (FollowsIn B n) Stops d u ms

-- where a path leads from a definition to a point, a direct way leads there where the point stands ahead, and only there
pub way_is_ahead : (B : Skeleton) (n : Next) (Stops : Point → Type 0) → Distinct B → IsOutside n B → OnlyActsStop B Stops → (d u : Point) → Stops d → StandsIn B d → StandsIn B u
    → HasPath B n Stops d u → DirectWay B n Stops d u ↔ StandsAhead B d u
way_is_ahead B n Stops di fr qu d u dd id iu f =
    ((λ w. goes_ahead B n Stops di fr d u w.0 w.1 id iu w.2), (λ a. direct_way B n Stops di fr qu d u dd (inl f) id iu a))

abbrev pub ByEdges : Skeleton → Next → (Point → Type 0) → ℕ → Place → Place → Type 0
ByEdges B n Stops c i j = HaveLessTurns c 0 i.1 j.1 ⊎ (HaveSameTurns c 0 i.1 j.1 × DirectWay B n Stops (at i.0) (at j.0))

-- the order of a definition and a point by turns and direct ways
pub before_by_edges : (B : Skeleton) (n : Next) (Stops : Point → Type 0) → Distinct B → IsOutside n B → OnlyActsStop B Stops → (i j : Place) → Stops (at i.0) → StandsIn B (at i.0) → StandsIn B (at j.0)
    → HasPath B n Stops (at i.0) (at j.0) → ComesBefore B 0 i j ↔ ((c : ℕ) × HaveCommon B (at i.0) (at j.0) c × ByEdges B n Stops c i j)
before_by_edges B n Stops di fr qu i j dd id iu f = (forth, back)
  where
    e : DirectWay B n Stops (at i.0) (at j.0) ↔ StandsAhead B (at i.0) (at j.0)
    e = way_is_ahead B n Stops di fr qu (at i.0) (at j.0) dd id iu f

    go : (c : ℕ) × HaveCommon B (at i.0) (at j.0) c × (HaveLessTurns c 0 i.1 j.1 ⊎ (HaveSameTurns c 0 i.1 j.1 × StandsAhead B (at i.0) (at j.0))) → (c : ℕ) × HaveCommon B (at i.0) (at j.0) c × ByEdges B n Stops c i j
    go (c, w, inl l) = (c, w, inl l)
    go (c, w, inr a) = (c, w, inr (a.0, e.1 a.1))

    forth : ComesBefore B 0 i j → (c : ℕ) × HaveCommon B (at i.0) (at j.0) c × ByEdges B n Stops c i j
    forth h = go (by_turns B 0 i j h)

    back : (c : ℕ) × HaveCommon B (at i.0) (at j.0) c × ByEdges B n Stops c i j → ComesBefore B 0 i j
    back (c, w, inl l) = before_by_turns B c 0 di i j w (inl l)
    back (c, w, inr a) = before_by_turns B c 0 di i j w (inr (a.0, e.0 a.1))
