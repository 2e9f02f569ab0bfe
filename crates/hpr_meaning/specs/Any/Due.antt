-- Which places a run has to come to, once some steps are listed, whatever the contents mean. When a step
-- calls for a place is said in hpr_meaning/specs/Due.antt, of the step's place and of the truth that it gave.
--
-- IsDue body is a == the place a is due, the steps `is` being listed: a first place of a top part always,
--                    each other place exactly where a listed step calls for it
-- IsListed is a   == one of the steps is at the place a
use Rattle.hpr_meaning.specs.Any.Meaning.{Meaning}
use Rattle.std.specs.Prelude.{◌≡◌, ◌⊎◌, List, [], None, Contains}
use Rattle.hpr_syntax.specs.Body.{Body}
use Rattle.hpr_syntax.specs.Nests.{Standing, StandsAsIn}
use Rattle.hpr_paths.specs.Times.{Place}
use Rattle.hpr_meaning.specs.Any.Instances.{Instance, truth}
use Rattle.hpr_meaning.specs.Due.{Calls, first_turns}

module _ (M : Meaning) where
  abbrev pub IsDue : Body → List (Instance M) → Place → Type 0
  IsDue p is a =
      (standing : Standing) × StandsAsIn p a.0 standing
      × (((standing.parent ≡ None) × (a.1 ≡ first_turns standing.content []))
      ⊎ ((i : Instance M) × Contains is i × Calls standing a i.0 (truth M i.1)))

  abbrev pub IsListed : List (Instance M) → Place → Type 0
  IsListed is a = (i : Instance M) × Contains is i × (i.0 ≡ a)
