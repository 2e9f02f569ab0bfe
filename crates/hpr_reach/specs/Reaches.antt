-- What undisturbed paths reach.
--
-- back_to w                 == the back edge to the loop w
-- AvoidsLoops loops steps   == none of the steps is the back edge to one of these loops
-- Reaches spots x loops p q == an undisturbed path for x goes from p to q, with no back edge to one of these
--                              loops
use Rattle.std.specs.Prelude.{ℕ, true, List, Contains}
use Rattle.hpr_paths.specs.declared.spot.Step.{Step}
use Rattle.hpr_paths.specs.Spots.{Spot}
use Rattle.hpr_paths.specs.Numbers.{NumberUndisturbed}

abbrev pub back_to : ℕ → Step
back_to w = record { to = w; back = true }

abbrev pub AvoidsLoops : List ℕ → List Step → Type 0
AvoidsLoops loops steps = (w : ℕ) → Contains loops w → ¬ Contains steps (back_to w)

abbrev pub Reaches : List Spot → List ℕ → List ℕ → ℕ → ℕ → Type 0
Reaches spots x loops p q = (steps : List Step) × NumberUndisturbed spots x p q steps × AvoidsLoops loops steps
