-- What writing an answer comes to.
--
-- stop_status stop  == the status of a stop
-- stop_message stop == its message for `err`
-- PutsAll ..        == all of the text was put
-- PutsPrefix ..     == a put failed, and a prefix of the text was put, but not all of it
-- Writes answer s out err == the answer is written with the status s
use Rattle.std.specs.Prelude.{◌≡◌, ◌⊎◌, ℕ, List, Result, Ok, Err, string_bytes}
use Rattle.hpr_io.specs.Counts.{Rose}
use Rattle.hpr_io.specs.Taken.{taken_then, TookStrictPrefix}
use Rattle.hpr_decisions.specs.Ends.{Change, IsUntouched, Says, cannot_write, no_memory, status_of_kind}
use Rattle.hpr_inputs.specs.declared.answer.Report.{Report}
use Rattle.hpr_inputs.specs.declared.answer.Stop.{Stop}
use Rattle.hpr_inputs.specs.declared.answer.Stop.TheVariants as stop
use Rattle.hpr_decisions.specs.declared.status.Status.{Status}
use Rattle.hpr_decisions.specs.declared.status.Status.TheVariants as status

abbrev pub stop_status : Stop → Status
stop_status (stop.Refused message) = status.Refused
stop_status (stop.ReadFault message) = status.ReadFault
stop_status stop.Memory = status.Memory

abbrev pub stop_message : Stop → List ℕ
stop_message (stop.Refused message) = string_bytes message
stop_message (stop.ReadFault message) = string_bytes message
stop_message stop.Memory = no_memory

pub record PutsAll (normal : Status) (text : List ℕ) (s : Status) (out err : Change) : Type 0 where
  pub status_is : s ≡ normal
  pub count : out.now ≡ out.before
  pub took : out.new ≡ taken_then out.old text
  pub silent : IsUntouched err

pub record PutsPrefix (text : List ℕ) (s : Status) (out err : Change) : Type 0 where
  pub status_is : s ≡ status.WriteFault
  pub count : Rose out.before out.now
  pub took : TookStrictPrefix out.old out.new text
  pub says : Says cannot_write err

abbrev pub Writes : Result Report Stop → Status → Change → Change → Type 0
Writes (Ok report) s out err = PutsAll (status_of_kind report.kind) report.text.items s out err ⊎ PutsPrefix report.text.items s out err
Writes (Err stop) s out err = (s ≡ stop_status stop) × IsUntouched out × Says (stop_message stop) err
