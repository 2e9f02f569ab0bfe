-- Flows through the back edges of loops.
--
-- Leaves spots x d p         == what d defines comes to the end of p: p is d, or an undisturbed path for x
--                               goes from d to p and p doesn't define x
-- ComesRound spots x w d     == what d defines comes to the end of the body of the loop w
-- GoesOn spots x w u         == what comes to the predicate of the loop w comes to u
-- PartsAt a b c              == the two lists agree in their first c elements, and no further
-- AvoidsCommon spots d u steps == none of the steps is a back edge to a loop that encloses both d and u
use Rattle.std.specs.Prelude.{◌≡◌, ℕ, ◌<◌, ◌≤◌, ◌⊎◌, Some, List, [], Contains, length, take, slice_index_or}
use Rattle.hpr_paths.specs.declared.spot.Step.{Step}
use Rattle.hpr_paths.specs.Spots.{Spot, next_at, nest_at, defined_at}
use Rattle.hpr_reach.specs.Reaches.{back_to, Reaches}

abbrev pub Leaves : List Spot → List ℕ → ℕ → ℕ → Type 0
Leaves spots x d p = (p ≡ d) ⊎ (Reaches spots x [] d p × (¬ (defined_at spots p ≡ Some x)))

abbrev pub ComesRound : List Spot → List ℕ → ℕ → ℕ → Type 0
ComesRound spots x w d = (p : ℕ) × Contains (next_at spots p) (back_to w) × Leaves spots x d p

abbrev pub GoesOn : List Spot → List ℕ → ℕ → ℕ → Type 0
GoesOn spots x w u = (u ≡ w) ⊎ Reaches spots x [] w u

pub record PartsAt (a b : List ℕ) (c : ℕ) : Type 0 where
  pub left : c ≤ length a
  pub right : c ≤ length b
  pub same : take c a ≡ take c b
  pub parts : c < length a → c < length b → slice_index_or a c 0 ≡ slice_index_or b c 0 → ⊥

abbrev pub AvoidsCommon : List Spot → ℕ → ℕ → List Step → Type 0
AvoidsCommon spots d u steps = (w : ℕ) → Contains (nest_at spots d) w → Contains (nest_at spots u) w → ¬ Contains steps (back_to w)
