-- What a command came to.
--
-- StopIs P reads before now stop    == a decided stop is a decision of P; a failed read says so by the
--                                      shelf's count and names a file that the call reads; the count is else
--                                      as before, but for want of memory
-- Decides P reads before now result == the same of a result: its text is a decision of P
-- Merges P result                   == a result over what is in memory: a decision of P, unless memory runs
--                                      out
use Rattle.std.specs.Prelude.{◌≡◌, ℕ, ◌≤◌, List, Result, Ok, Err, string_bytes}
use Rattle.hpr_io.specs.Counts.{Rose}
use Rattle.hpr_inputs.specs.Decision.{Decision, prints, refuses}
use Rattle.hpr_inputs.specs.Files.{cannot_read}
use Rattle.hpr_inputs.specs.declared.answer.Report.{Report}
use Rattle.hpr_inputs.specs.declared.answer.Stop.{Stop}
use Rattle.hpr_inputs.specs.declared.answer.Stop.TheVariants as stop

abbrev pub StopIs : (Decision → Type 0) → (List ℕ → Type 0) → ℕ → ℕ → Stop → Type 0
StopIs P reads before now (stop.Refused message) = P (refuses (string_bytes message)) × (now ≡ before)
StopIs P reads before now (stop.ReadFault message) =
    Rose before now × (file : List ℕ) × reads file × (string_bytes message ≡ cannot_read file)
StopIs P reads before now stop.Memory = before ≤ now

abbrev pub Decides : (Decision → Type 0) → (List ℕ → Type 0) → ℕ → ℕ → Result Report Stop → Type 0
Decides P reads before now (Ok report) = P (prints report.kind report.text.items) × (now ≡ before)
Decides P reads before now (Err s) = StopIs P reads before now s

abbrev pub Merges : (Decision → Type 0) → Result Report Stop → Type 0
Merges P (Ok report) = P (prints report.kind report.text.items)
Merges P (Err (stop.Refused message)) = P (refuses (string_bytes message))
Merges P (Err (stop.ReadFault message)) = ⊥
Merges P (Err stop.Memory) = Unit {0}
