-- What the reader of scripts answers on its way.
--
-- IfSyntax result P       == P of the place, where the answer is a place
-- StepsAt o n result      == the answer is o, or the place n where there is none; memory may run out
-- Ends l s bytes          == the bytes lead from s, where l has begun, to an end of a script
-- Leads l s bytes at r e  == from s, where l has begun, the bytes from `at` to e lead to r
-- is_whole begun stage    == a script may end there
-- WholeAt whole n result  == there is an answer where a script may end, and else the place n
use Rattle.std.specs.Prelude.{◌≡◌, ℕ, ◌<◌, ◌≤◌, Bool, true, false, List, length, slice_range, Option, Some, None, Result, Ok, Err}
use Rattle.hpr_scan.specs.declared.scanner.Lex.{Lex}
use Rattle.hpr_scan.specs.Scanner.{feeds, scan}
use Rattle.hpr_script.specs.declared.found.Found.{Found}
use Rattle.hpr_script.specs.declared.scanner.Begun.{Begun}
use Rattle.hpr_script.specs.declared.scanner.Begun.TheVariants.{Gap, Comment, InWord}
use Rattle.hpr_script.specs.declared.scanner.Reader.{Reader}
use Rattle.hpr_script.specs.declared.stage.Stage.{Stage}
use Rattle.hpr_script.specs.declared.stage.Stage.TheVariants.{AtCommand}
use Rattle.hpr_script.specs.declared.reader.ScriptError.{ScriptError}
use Rattle.hpr_script.specs.declared.reader.ScriptError.TheVariants.{Syntax, Memory}
use Rattle.hpr_script.specs.Machine.{State, head, next, ends_script}
use Rattle.hpr_script.specs.Reading.{IsSound, scanner_of}

abbrev pub IfSyntax : {A : Type 0} → Result A ScriptError → (ℕ → Type 0) → Type 0
IfSyntax (Ok a) P = Unit {0}
IfSyntax (Err (Syntax n)) P = P n
IfSyntax (Err Memory) P = Unit {0}

abbrev pub StepsAt : {A : Type 0} → Option A → ℕ → Result A ScriptError → Type 0
StepsAt o n (Ok a) = o ≡ Some a
StepsAt o n (Err (Syntax m)) = (o ≡ None) × (m ≡ n)
StepsAt o n (Err Memory) = Unit {0}

abbrev pub Ends : Lex → State → List ℕ → Type 0
Ends l s bytes = (f : Found) × (scan next l s bytes ≡ Some (head f AtCommand))

pub record Leads (l : Lex) (s : State) (bytes : List ℕ) (at : ℕ) (r : Reader) (e : ℕ) : Type 0 where
  pub further : at < e
  pub within : e ≤ length bytes
  pub sound : IsSound r
  pub feeds : feeds next l s (slice_range bytes at e) ≡ Some (scanner_of r)

abbrev pub is_whole : Begun → Stage → Bool
is_whole (InWord w) s = false
is_whole Gap s = ends_script s
is_whole Comment s = ends_script s

abbrev pub WholeAt : Bool → ℕ → {A : Type 0} → Result A ScriptError → Type 0
WholeAt whole n (Ok v) = whole ≡ true
WholeAt whole n (Err (Syntax m)) = (whole ≡ false) × (m ≡ n)
WholeAt whole n (Err Memory) = ⊥
