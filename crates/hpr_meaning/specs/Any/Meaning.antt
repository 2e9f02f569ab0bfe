-- A meaning of contents: what each part gives, whatever language its text is of.
--
-- Meaning   == values, faults and states; what a state has under a name; a state where a name has a value
--              now; what a part that says c gives in a state, a value or a fault; whether a predicate that
--              gave a value is true; and what a step of the part shows in a state
-- Given M   == what a part gives, or its fault
-- put_in M name v s == the state s, where the name, if there is one, has the value v now
-- next M c v s == the state behind the part that says c, where it gave v in the state s: the name that the
--                 part defines has the value v
-- HasLaws M == what a part gives, and what a step of it shows, depends on what the state has under the names
--              that it uses alone; a name has the value that was put under it last; and two values that can't
--              differ are the same
use Rattle.std.specs.Prelude.{◌≡◌, ℕ, Bool, List, Option, Some, None, Result}
use Rattle.hpr_syntax.specs.declared.rows.Content.{Content}
use Rattle.hpr_syntax.specs.Rows.{assigned}
use Rattle.hpr_syntax.specs.Contents.{UsesIn}

pub record Meaning : Type 1 where
  pub Value : Type 0
  pub Fault : Type 0
  pub State : Type 0
  pub get : State → List ℕ → Value
  pub set : State → List ℕ → Value → State
  pub answer : Content → State → Result Value Fault
  pub holds : Value → Bool
  pub Shown : Type 0
  pub shown : Content → State → Shown

abbrev pub Given : Meaning → Type 0
Given M = Result M.Value M.Fault

abbrev pub put_in : (M : Meaning) → Option (List ℕ) → M.Value → M.State → M.State
put_in M None v s = s
put_in M (Some x) v s = M.set s x v

abbrev pub next : (M : Meaning) → Content → M.Value → M.State → M.State
next M c v s = put_in M (assigned c) v s

pub record HasLaws (M : Meaning) : Type 0 where
  pub by_uses : (c : Content) (s t : M.State) → ((x : List ℕ) → UsesIn c x → M.get s x ≡ M.get t x) → M.answer c s ≡ M.answer c t
  pub shown_by_uses : (c : Content) (s t : M.State) → ((x : List ℕ) → UsesIn c x → M.get s x ≡ M.get t x) → M.shown c s ≡ M.shown c t
  pub set_gives : (s : M.State) (x : List ℕ) (v : M.Value) → M.get (M.set s x v) x ≡ v
  pub set_keeps : (s : M.State) (x y : List ℕ) (v : M.Value) → ¬ (Some y ≡ Some x) → M.get (M.set s y v) x ≡ M.get s x
  pub stable : (v w : M.Value) → ¬ (¬ (v ≡ w)) → v ≡ w
