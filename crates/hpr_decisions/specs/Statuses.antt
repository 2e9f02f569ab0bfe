-- Which statuses belong to a command, whatever the shelf tells.
--
-- DoesIntegrate request == the request integrates variants with their base: `integrate`, `trial` or `sample`
-- DoesRun request       == it tells how programs ran: `run` or `trial`
-- DoesVerify request    == it is `verify`
-- IsKindOf request kind == an answer to the request may be of this kind
-- IsStatusOf request s  == a call with the request may end so; by a failed read only where it may come to
--                          read a file
use Rattle.std.specs.Prelude.{Some}
use Rattle.hpr_words.specs.Request.{Request, integrate, integrate_many, run, trial, sample, verify}
use Rattle.hpr_inputs.specs.declared.answer.Kind.{Kind}
use Rattle.hpr_inputs.specs.declared.answer.Kind.TheVariants as kind
use Rattle.hpr_decisions.specs.Reads.{ReadsNothing}
use Rattle.hpr_decisions.specs.declared.status.Status.{Status}
use Rattle.hpr_decisions.specs.declared.status.Status.TheVariants as status

abbrev pub DoesIntegrate : Request → Type 0
DoesIntegrate (integrate base a b tries) = Unit {0}
DoesIntegrate (integrate_many base variants tries) = Unit {0}
DoesIntegrate (trial base a b states steps) = Unit {0}
DoesIntegrate (sample seed parts) = Unit {0}
DoesIntegrate _ = ⊥

abbrev pub DoesRun : Request → Type 0
DoesRun (run file states steps trace) = Unit {0}
DoesRun (trial base a b states steps) = Unit {0}
DoesRun _ = ⊥

abbrev pub DoesVerify : Request → Type 0
DoesVerify (verify base a b offered) = Unit {0}
DoesVerify _ = ⊥

abbrev pub IsKindOf : Request → Kind → Type 0
IsKindOf request kind.Done = Unit {0}
IsKindOf request kind.Interference = DoesIntegrate request
IsKindOf request kind.NoProgram = DoesIntegrate request
IsKindOf request kind.Spent = DoesIntegrate request
IsKindOf request kind.NotEnded = DoesRun request
IsKindOf request kind.Rejected = DoesVerify request

abbrev pub IsStatusOf : Request → Status → Type 0
IsStatusOf request status.Done = Unit {0}
IsStatusOf request status.Interference = DoesIntegrate request
IsStatusOf request status.NoProgram = DoesIntegrate request
IsStatusOf request status.Spent = DoesIntegrate request
IsStatusOf request status.Refused = Unit {0}
IsStatusOf request status.ReadFault = ReadsNothing (Some request) → ⊥
IsStatusOf request status.WriteFault = Unit {0}
IsStatusOf request status.Words = ⊥
IsStatusOf request status.Memory = Unit {0}
IsStatusOf request status.NotEnded = DoesRun request
IsStatusOf request status.Rejected = DoesVerify request
