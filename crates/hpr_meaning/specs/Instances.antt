-- The instances of a run by hpr's own meaning: its finished steps in their order (Reps and Yang 1988), as
-- Any/Instances has them by `standard`.
--
-- Read              == a name that a step reads, the value, and the step that last defined the name: its
--                      place and what it says; none where the value is the initial one
-- Did               == what was done at a place: the content, the reads, what it gave, and the number that
--                      the step assigned, stored, wrote or decided by
-- Instance          == a place, and what was done there
-- truth d           == whether what was given is true
-- state_after s log == the state from s on after the log
-- definer x log     == the step that last defined the name x
-- put_name x names  == the name among these, which ascend, each once
-- put_names names   == these names, ascending, each once
-- names_of c        == the names that a part uses that says c, ascending, each once
-- Course            == where a run is after some statements: it goes on with a log and some steps left, or it
--                      stopped at a place, for a fault or for want of steps
-- after_of s course == what a run from s sees of it: the state, the steps left, and the part and the fault of
--                      a stop
-- course_of p s n   == the whole run of the program p from the state s with n steps to spend
-- instances p s n   == its finished steps, in their order
-- IsStopOf p s n a  == the run stops at the place a, for a fault or for want of steps
use Rattle.std.specs.Prelude.{ℕ, Bool, List, Option, Some, None}
use Rattle.hpr_syntax.specs.declared.rows.Content.{Content}
use Rattle.hpr_syntax.specs.Tree.{Tree}
use Rattle.hpr_syntax.specs.Values.{Values}
use Rattle.hpr_syntax.specs.Run.{After}
use Rattle.hpr_syntax.specs.Run as after
use Rattle.hpr_paths.specs.Times.{Place}
use Rattle.hpr_meaning.specs.Any.Standard.{standard}
use Rattle.hpr_meaning.specs.Any.Instances as any
pub use Rattle.hpr_meaning.specs.Any.Instances.{with_definer, put_name, put_names, names_of}

abbrev pub Read : Type 0
Read = any.Read standard

abbrev pub Did : Type 0
Did = any.Did standard

abbrev pub Instance : Type 0
Instance = any.Instance standard

abbrev pub truth : Did → Bool
truth d = any.truth standard d

abbrev pub state_after : Values → List Instance → Values
state_after s log = any.state_after standard s log

abbrev pub definer : List ℕ → List Instance → Option (Place × Content)
definer x log = any.definer standard x log

abbrev pub Course : Type 0
Course = any.Course standard

abbrev pub after_of : Values → Course → After
after_of s (any.goes log left) = after.goes (state_after s log) left
after_of s (any.stops a None log left) = after.spent
after_of s (any.stops a (Some f) log left) = after.stops a.0 f left

abbrev pub course_of : Tree → Values → ℕ → Course
course_of p s n = any.course_of standard p s n

abbrev pub instances : Tree → Values → ℕ → List Instance
instances p s n = any.instances standard p s n

abbrev pub IsStopOf : Tree → Values → ℕ → Place → Type 0
IsStopOf p s n a = any.IsStopOf standard p s n a
