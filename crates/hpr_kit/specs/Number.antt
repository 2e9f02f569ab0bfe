-- The number of a status.
--
-- number_of status == the exit status of the program
use Rattle.std.specs.Prelude.{ℕ}
use Rattle.hpr_kit.specs.declared.status.Status.{Status}
use Rattle.hpr_kit.specs.declared.status.Status.TheVariants as status

abbrev pub number_of : Status → ℕ
number_of status.Done = 0
number_of status.No = 1
number_of status.Refused = 4
number_of status.ReadFault = 5
number_of status.WriteFault = 6
number_of status.Words = 7
number_of status.Memory = 8
