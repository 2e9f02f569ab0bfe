-- What a token that is taken in place leaves.
--
-- InPlace make o result  == the answer is what make makes o of, or o's refusal; memory may run out
use Rattle.std.specs.Prelude.{◌≡◌, Option, Some, None, Result, Ok, Err}
use Rattle.hpr_scan.specs.declared.machine.Fault.{Fault}
use Rattle.hpr_scan.specs.declared.machine.Fault.TheVariants.{Refused, Memory}

abbrev pub InPlace : {A B : Type 0} → (A → B) → Option B → Result A Fault → Type 0
InPlace make o (Ok answer) = o ≡ Some (make answer)
InPlace make o (Err Refused) = o ≡ None
InPlace make o (Err Memory) = Unit {0}
