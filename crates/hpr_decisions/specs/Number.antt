-- The number of a status.
--
-- number_of status == the exit status of the program
use Rattle.std.specs.Prelude.{ℕ}
use Rattle.hpr_decisions.specs.declared.status.Status.{Status}
use Rattle.hpr_decisions.specs.declared.status.Status.TheVariants as status

abbrev pub number_of : Status → ℕ
number_of status.Done = 0
number_of status.Interference = 1
number_of status.NoProgram = 2
number_of status.Spent = 3
number_of status.Refused = 4
number_of status.ReadFault = 5
number_of status.WriteFault = 6
number_of status.Words = 7
number_of status.Memory = 8
number_of status.NotEnded = 9
number_of status.Rejected = 10
