-- hpr's own meaning of contents, as one of all.
--
-- standard      == numbers, lists and arrays, with hpr's faults and states, and what its operators give; a
--                  step shows a number
-- own_outcome o == how a run by this meaning went, in the words of hpr's own runs
use Rattle.std.specs.Prelude.{ℤ}
use Rattle.hpr_syntax.specs.declared.value.Value.{Value}
use Rattle.hpr_syntax.specs.Values.{Values, value_at, put}
use Rattle.hpr_syntax.specs.Value.{Fault}
use Rattle.hpr_syntax.specs.Contents.{answer_of, holds, shown_of}
use Rattle.hpr_syntax.specs.Run as own
use Rattle.hpr_meaning.specs.Any.Meaning.{Meaning}
use Rattle.hpr_meaning.specs.Any.Run.{Outcome, ends, faults, more}

abbrev pub standard : Meaning
standard = record {
  Value = Value;
  Fault = Fault;
  State = Values;
  get = value_at;
  set = put;
  answer = answer_of;
  holds = holds;
  Shown = ℤ;
  shown = shown_of;
}

abbrev pub own_outcome : Outcome standard → own.Outcome
own_outcome (ends f k) = own.ends f k
own_outcome (faults t f k) = own.faults t f k
own_outcome (more k) = own.more k
