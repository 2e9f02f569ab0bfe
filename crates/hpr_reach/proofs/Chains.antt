-- The loops that enclose both of two points are a front of both nests.
use Rattle.std.proofs.Common.{◌≡◌, ℕ, ◌+◌, ◌<◌, Some, List, length, take, drop, get_or, Contains, ◌↔◌, inl, inr, sym, ap, ◌∙◌, subst, arith}
use Rattle.std.proofs.lemmas.Bool.{cases_lt}
use Rattle.std.proofs.lemmas.List.{get_or-take, length-take-le, take-append-drop}
use Rattle.std.proofs.lemmas.List.Elements.{Contains-append_left}
use Rattle.std.proofs.lemmas.Option.{slice_get-get_or}
use Rattle.hpr_paths.specs.declared.spot.Step.{Step}
use Rattle.hpr_paths.specs.Spots.{Spot, nest_at}
use Rattle.hpr_paths.specs.Numbers.{NumberUndisturbed}
use Rattle.hpr_paths.specs.Successors.{AreSpots}
use Rattle.hpr_reach.specs.Reaches.{AvoidsLoops, Reaches}
use Rattle.hpr_reach.specs.Flows.{PartsAt, AvoidsCommon}

pub contains_taken : (c : ℕ) (xs : List ℕ) (w : ℕ) → Contains (take c xs) w → Contains xs w
contains_taken c xs w h = subst (λ (ys : List ℕ). Contains ys w) (take-append-drop c xs) (Contains-append_left (take c xs) (drop c xs) w h)

module _ (spots : List Spot) (are : AreSpots spots) (d u c : ℕ) (at : PartsAt (nest_at spots d) (nest_at spots u) c) where
  abbrev A : List ℕ
  A = nest_at spots d

  abbrev B : List ℕ
  B = nest_at spots u

  chained : (p i w : ℕ) → i < length (nest_at spots p) → get_or (nest_at spots p) i w ≡ w → nest_at spots w ≡ take (i + 1) (nest_at spots p)
  chained p i w l e = are.chain p i w (slice_get-get_or (nest_at spots p) i w l ∙ ap (λ (v : ℕ). Some v) e)

  -- a loop of both stands in both at one place, before the nests part
  common_low : (w i j : ℕ) → i < length A → get_or A i w ≡ w → j < length B → get_or B j w ≡ w → i < c
  common_low w i j li ei lj ej =
      let same : take (i + 1) A ≡ take (j + 1) B = sym (chained d i w li ei) ∙ chained u j w lj ej in
      let place : i ≡ j = omega (arith, ap length same, length-take-le (i + 1) A (omega arith), length-take-le (j + 1) B (omega arith)) in
      elim (cases_lt i c) [
        | inl l ↦ l
        | inr past ↦ absurd (at.parts (omega arith) (omega arith)
            (sym (get_or-take (i + 1) A c 0 (omega arith)) ∙ ap (λ (xs : List ℕ). get_or xs c 0) same ∙ get_or-take (j + 1) B c 0 (omega arith)))
      ]

  pub common_front : (w : ℕ) → Contains (take c A) w ↔ (Contains A w × Contains B w)
  common_front w = (
    (λ h. (contains_taken c A w h, contains_taken c B w (subst (λ (xs : List ℕ). Contains xs w) at.same h))),
    (λ ((i, li, ei), (j, lj, ej)).
        let low : i < c = common_low w i j li ei lj ej in
        (i, omega (arith, low, length-take-le c A at.left), get_or-take c A i w low ∙ ei)),
  )

  pub common_avoids : (steps : List Step) → AvoidsLoops (take c A) steps ↔ AvoidsCommon spots d u steps
  common_avoids steps = (
    (λ avoids w a b. avoids w ((common_front w).1 (a, b))),
    (λ avoids w h. let k = (common_front w).0 h in avoids w k.0 k.1),
  )

  pub common_reach : (x : List ℕ) → Reaches spots x (take c A) d u ↔ ((steps : List Step) × NumberUndisturbed spots x d u steps × AvoidsCommon spots d u steps)
  common_reach x = (
    (λ (steps, path, avoids). (steps, path, (common_avoids steps).0 avoids)),
    (λ (steps, path, avoids). (steps, path, (common_avoids steps).1 avoids)),
  )
