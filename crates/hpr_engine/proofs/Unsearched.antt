-- What holds of each way in which a merge ends.
use Rattle.std.proofs.Common.{ℕ, List, Result, Ok, Err, IsErrOf}
use Rattle.hpr_graph.specs.declared.conflict.Conflict.{Conflict}
use Rattle.hpr_engine.specs.declared.stop.Stop.{Stop}
use Rattle.hpr_engine.specs.declared.stop.Stop.TheVariants.{TooManyEdges, Interference, NoProgram, Spent, Memory}
use Rattle.hpr_engine.specs.declared.stop.Which.{Which}
use Rattle.hpr_engine.specs.Answers.{IfInterference, IfJudged, IfTooManyEdges}

-- a program that is found, a graph that no program has, and want of memory are no spent search
module _ (Y : Type 0) where
  pub found_not_spent : (y : Y) → ¬ IsErrOf {T = Y} {E = Stop} (Ok y) Spent
  found_not_spent y is = absurd cc

  pub none_not_spent : (n : ℕ) → ¬ IsErrOf {T = Y} {E = Stop} (Err (NoProgram n)) Spent
  none_not_spent n is = absurd cc

  pub memory_not_spent : ¬ IsErrOf {T = Y} {E = Stop} (Err Memory) Spent
  memory_not_spent is = absurd cc

-- what is so of every result, of one that names no program, and of a list of conflicts
module _ (X : Type 0) where
  pub judged_always : (r : Result X Stop) (P : Type 0) → P → IfJudged r P
  judged_always (Ok x) P p = p
  judged_always (Err (TooManyEdges which)) P p = tt
  judged_always (Err (Interference cs)) P p = p
  judged_always (Err (NoProgram n)) P p = p
  judged_always (Err Spent) P p = p
  judged_always (Err Memory) P p = tt

  pub never_too_many : (r : Result X Stop) (P : Which → Type 0) → IfTooManyEdges r (λ _. ⊥) → IfTooManyEdges r P
  never_too_many (Ok x) P h = tt
  never_too_many (Err (TooManyEdges which)) P h = absurd h
  never_too_many (Err (Interference cs)) P h = tt
  never_too_many (Err (NoProgram n)) P h = tt
  never_too_many (Err Spent) P h = tt
  never_too_many (Err Memory) P h = tt

  pub interference_weaker : (r : Result X Stop) (P Q : List Conflict → Type 0) → ((cs : List Conflict) → P cs → Q cs) → IfInterference r P → IfInterference r Q
  interference_weaker (Ok x) P Q f h = tt
  interference_weaker (Err (TooManyEdges which)) P Q f h = tt
  interference_weaker (Err (Interference cs)) P Q f h = f cs.items h
  interference_weaker (Err (NoProgram n)) P Q f h = tt
  interference_weaker (Err Spent) P Q f h = tt
  interference_weaker (Err Memory) P Q f h = tt
