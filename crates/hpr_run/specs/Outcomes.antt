-- Outcomes of the code as those of the definitions, and what the parts of the interpreter answer.
--
-- outcome_of o             == the outcome
-- Stepped r t a gives told o n o' left == r is the number of the expression of the part t, which gave a in
--                                         one step of n to spend, where the observer knew o; left of them are
--                                         left, and o' is known then; gives says what the part gives by that
--                                         number, and told is what is known where the step is done
-- Did r way o s left       == r is what statements gave that go this way, with what the observer knows, the
--                             state and the steps that they left; want of memory may come anywhere
use Rattle.std.specs.Prelude.{◌≡◌, ℕ, ℤ, suc, Result, Ok, Err}
use Rattle.hpr_terms.specs.declared.tag.Tag.{Tag}
use Rattle.hpr_syntax.specs.declared.value.Value.{Value}
use Rattle.hpr_syntax.specs.Values.{Values}
use Rattle.hpr_syntax.specs.Contents.{Given}
use Rattle.hpr_run.specs.Faults.{fault_of}
use Rattle.hpr_syntax.specs.Run.{ends, faults, more}
use Rattle.hpr_syntax.specs.Run as means_run
use Rattle.hpr_run.specs.Observed.{Way, goes, stops, spent}
use Rattle.hpr_run.specs.declared.interpreter.Outcome.{Outcome}
use Rattle.hpr_run.specs.declared.interpreter.Outcome.TheVariants.{Ends, Faults, More}
use Rattle.hpr_run.specs.declared.interpreter.Stop.{Stop}
use Rattle.hpr_run.specs.declared.interpreter.Stop.TheVariants.{Faulty, Spent, Memory}

abbrev pub outcome_of : Outcome → means_run.Outcome
outcome_of (Ends finals steps) = ends finals steps
outcome_of (Faults tag fault steps) = faults tag (fault_of fault) steps
outcome_of (More steps) = more steps

abbrev pub Stepped : {O : Type 0} → Result ℤ Stop → Tag → Given → (ℤ → Value) → O → O → ℕ → O → ℕ → Type 0
Stepped (Ok z) t a gives told o n o' left = (n ≡ suc left) × (a ≡ Ok (gives z)) × (o' ≡ told)
Stepped (Err Spent) t a gives told o n o' left = (n ≡ 0) × (o' ≡ o)
Stepped (Err (Faulty u f)) t a gives told o n o' left = (n ≡ suc left) × (t ≡ u) × (a ≡ Err (fault_of f)) × (o' ≡ o)
Stepped (Err Memory) t a gives told o n o' left = Unit {0}

abbrev pub Did : {O : Type 0} → Result (Unit {0}) Stop → Way O → O → Values → ℕ → Type 0
Did (Ok u) way o s left = way ≡ goes o s left
Did (Err Spent) way o s left = way ≡ spent o
Did (Err (Faulty t f)) way o s left = way ≡ stops t (fault_of f) o left
Did (Err Memory) way o s left = Unit {0}
