-- Which places a run has to come to, once some steps are listed.
--
-- IsRepeated s           == a part of this structure has a block that is repeated
-- IsLoop c               == the content is a loop's predicate
-- turns_under s around   == the turns of a first place of a part of this structure under the turns `around`:
--                           a loop has its own turn 0 after them
-- first_turns c around   == the same, of a part that says this
-- IsNextTurn turns next  == the next turn of the innermost loop
-- Calls standing a i b   == a step at the place i whose number had the truth b calls for the place a of a
--                           part that stands so: a first place right under the step's part in the branch b,
--                           with the same turns on the loops that enclose both; or the next turn of one loop,
--                           where the number was true
-- IsDue body is a        == the place a is due, the steps `is` being listed: a first place of a top part
--                           always, each other place exactly where a listed step calls for it
-- IsListed is a          == one of the steps is at the place a
use Rattle.std.specs.Prelude.{◌≡◌, ℕ, suc, Bool, true, ◌⊎◌, List, [], ◌∷◌, ◌++◌, Some, None, Contains}
use Rattle.hpr_syntax.specs.declared.rows.Content.{Content}
use Rattle.hpr_syntax.specs.declared.rows.Structure.{Structure}
use Rattle.hpr_syntax.specs.declared.rows.Structure.TheVariants.{Simple, Conditional, Loop}
use Rattle.hpr_syntax.specs.Rows.{structure_of}
use Rattle.hpr_syntax.specs.Body.{Body}
use Rattle.hpr_syntax.specs.Nests.{Standing, StandsAsIn}
use Rattle.hpr_paths.specs.Times.{Place}
use Rattle.hpr_meaning.specs.Instances.{Instance, truth}

abbrev pub IsRepeated : Structure → Type 0
IsRepeated Simple = ⊥
IsRepeated Conditional = ⊥
IsRepeated Loop = Unit {0}

abbrev pub IsLoop : Content → Type 0
IsLoop c = IsRepeated (structure_of c)

abbrev pub turns_under : Structure → List ℕ → List ℕ
turns_under Simple around = around
turns_under Conditional around = around
turns_under Loop around = around ++ 0 ∷ []

abbrev pub first_turns : Content → List ℕ → List ℕ
first_turns c around = turns_under (structure_of c) around

abbrev pub IsNextTurn : List ℕ → List ℕ → Type 0
IsNextTurn turns next = (around : List ℕ) × (k : ℕ) × (turns ≡ around ++ k ∷ []) × (next ≡ around ++ suc k ∷ [])

abbrev pub Calls : Standing → Place → Place → Bool → Type 0
Calls standing a i b =
    ((standing.parent ≡ Some (i.0, b)) × (a.1 ≡ first_turns standing.content i.1))
    ⊎ (IsLoop standing.content × (i.0 ≡ a.0) × (b ≡ true) × IsNextTurn i.1 a.1)

abbrev pub IsDue : Body → List Instance → Place → Type 0
IsDue p is a =
    (standing : Standing) × StandsAsIn p a.0 standing
    × (((standing.parent ≡ None) × (a.1 ≡ first_turns standing.content []))
    ⊎ ((i : Instance) × Contains is i × Calls standing a i.0 (truth i.1)))

abbrev pub IsListed : List Instance → Place → Type 0
IsListed is a = (i : Instance) × Contains is i × (i.0 ≡ a)
