-- Faults of the code as those of the definitions.
--
-- fault_of f  == the fault
-- answer_of r == the number or the fault
use Rattle.std.specs.Prelude.{ℤ, Result, Ok, Err}
use Rattle.hpr_syntax.specs.Value.{Answer, overflow, zero_divide, output_full, index_range}
use Rattle.hpr_syntax.specs.Value as means
use Rattle.hpr_run.specs.declared.values.Fault.{Fault}
use Rattle.hpr_run.specs.declared.values.Fault.TheVariants.{Overflow, ZeroDivide, OutputFull, IndexRange}

abbrev pub fault_of : Fault → means.Fault
fault_of Overflow = overflow
fault_of ZeroDivide = zero_divide
fault_of OutputFull = output_full
fault_of IndexRange = index_range

abbrev pub answer_of : Result ℤ Fault → Answer
answer_of (Ok z) = Ok z
answer_of (Err f) = Err (fault_of f)
