-- What a token that is taken in place leaves.
--
-- reading_of c last   == the reading in the context c, where last was read: an operand, or none, and one must
--                        stand next
-- Leads o c result    == the answer goes with the context c, and they are the reading o, or its refusal;
--                        memory may run out
use Rattle.std.specs.Prelude.{◌≡◌, Option, Some, None, Result, Ok, Err}
use Rattle.hpr_scan.specs.declared.machine.Fault.{Fault}
use Rattle.hpr_scan.specs.declared.machine.Fault.TheVariants.{Refused, Memory}
use Rattle.hpr_expressions.specs.declared.expression.Context.{Context}
use Rattle.hpr_expressions.specs.declared.expression.Reading.{Reading}
use Rattle.hpr_expressions.specs.declared.expression.Reading.TheVariants.{Before, Named, After}
use Rattle.hpr_expressions.specs.declared.expression.Last.{Last}
use Rattle.hpr_expressions.specs.declared.expression.Last.TheVariants.{Nothing, Name, Value}

abbrev pub reading_of : Context → Last → Reading
reading_of c Nothing = Before c
reading_of c (Name x) = Named c x
reading_of c (Value e) = After c e

abbrev pub Leads : Option Reading → Context → Result Last Fault → Type 0
Leads o c (Ok last) = o ≡ Some (reading_of c last)
Leads o c (Err Refused) = o ≡ None
Leads o c (Err Memory) = Unit {0}
