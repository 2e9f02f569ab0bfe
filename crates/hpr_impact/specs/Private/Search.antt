-- A search that keeps from where each point was come to.
--
-- points_of visits      == the points, in the order in which they were come to
-- come_to None p        == the start p, which is its own root
-- come_to (Some v) p    == the point p as a step of v, with v's root
-- IsTrail steps starts visits == each point is a start, or else a step of a point that was come to before it
-- AreCome from ps old new == behind the old ones stand some of the points ps as they are come to from there,
--                            none of which is among the old
use Rattle.std.specs.Prelude.{◌≡◌, ℕ, Option, Some, None, List, [], ◌∷◌, ◌++◌, Contains, map}
use Rattle.hpr_impact.specs.declared.search.Visit.{Visit}

abbrev pub points_of : List Visit → List ℕ
points_of visits = map (λ v. v.point) visits

abbrev pub come_to : Option Visit → ℕ → Visit
come_to None p = record { point = p; from = None; root = p }
come_to (Some v) p = record { point = p; from = Some v.point; root = v.root }

pub data IsTrail (steps : ℕ → List ℕ) (starts : List ℕ) : List Visit → Type 0 where
  none : IsTrail steps starts []
  start : {visits : List Visit} {p : ℕ} → IsTrail steps starts visits → Contains starts p → IsTrail steps starts (visits ++ come_to None p ∷ [])
  step : {visits : List Visit} {v : Visit} {p : ℕ} → IsTrail steps starts visits → Contains visits v → Contains (steps v.point) p → ¬ Contains starts p
      → IsTrail steps starts (visits ++ come_to (Some v) p ∷ [])

abbrev pub AreCome : Option Visit → List ℕ → List Visit → List Visit → Type 0
AreCome from ps old new =
    (more : List ℕ) × (new ≡ old ++ map (come_to from) more) × ((p : ℕ) → Contains more p → Contains ps p × ¬ Contains (points_of old) p)
