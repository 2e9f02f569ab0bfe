-- The law of time, whatever the contents mean: the steps of a run stand in time order, and they are those
-- that are due.
--
-- IsAscending R is    == each instance's place is R to the place of each later one
-- IsNext body is a    == the place a is next behind these steps: it is due and not listed, each of them is
--                        before it, and each due place that is before it is listed
-- IsTimely p s n      == the law, for the run of the program p from the state s with n steps to spend
use Rattle.hpr_meaning.specs.Any.Meaning.{Meaning}
use Rattle.std.specs.Prelude.{◌≡◌, ◌≢◌, ℕ, List, [], ◌∷◌, Contains}
use Rattle.std.specs.List.{AllByRecursion}
use Rattle.hpr_syntax.specs.Body.{Body}
use Rattle.hpr_syntax.specs.Tree.{Tree}
use Rattle.hpr_meaning.specs.Any.Run.{FinalValues, ends, run}
use Rattle.hpr_paths.specs.Times.{Place, IsBefore}
use Rattle.hpr_meaning.specs.Any.Instances.{Instance, instances, IsStopOf}
use Rattle.hpr_meaning.specs.Any.Due.{IsDue, IsListed}

module _ (M : Meaning) where
  abbrev pub IsAscending : (Place → Place → Type 0) → List (Instance M) → Type 0
  IsAscending R [] = Unit {0}
  IsAscending R (i ∷ is) = AllByRecursion (λ j. R i.0 j.0) is × IsAscending R is

pub record IsNext (M : Meaning) (p : Body) (is : List (Instance M)) (a : Place) : Type 0 where
  pub due : IsDue M p is a
  pub not_listed : ¬ IsListed M is a
  pub behind : (i : Instance M) → Contains is i → IsBefore p i.0 a
  pub due_before : (b : Place) → IsDue M p is b → IsBefore p b a → IsListed M is b

-- Strictly ascending: so no vertex occurs twice with one list of turns.
pub record IsTimely (M : Meaning) (p : Tree) (s : M.State) (n : ℕ) : Type 0 where
  pub ascending : IsAscending M (λ a b. IsBefore p.body a b × (a ≢ b)) (instances M p s n)
  pub listed_due : (i : Instance M) → Contains (instances M p s n) i → IsDue M p.body (instances M p s n) i.0
  pub due_before_listed : (a : Place) (i : Instance M) → IsDue M p.body (instances M p s n) a → Contains (instances M p s n) i → IsBefore p.body a i.0
      → IsListed M (instances M p s n) a
  pub due_at_end : (finals : FinalValues M) (steps : ℕ) → run M p s n ≡ ends finals steps → (a : Place) → IsDue M p.body (instances M p s n) a
      → IsListed M (instances M p s n) a
  pub stop_next : (a : Place) → IsStopOf M p s n a → IsNext M p.body (instances M p s n) a
