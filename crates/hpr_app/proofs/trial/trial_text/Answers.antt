use Rattle.std.proofs.Common.{subst, sym}
use Rattle.hpr_syntax.specs.Run.{FinalValues}
use Rattle.hpr_report.specs.TableText.{IsSingleValued}
use Rattle.hpr_app.proofs.trial.trial_text.Goals as goal

pub table_text-requires-clause-base : goal.table_text-requires-clause-base
table_text-requires-clause-base c = subst (λ (f : FinalValues). IsSingleValued f) (sym c.finals_of.ensures) c.requires.base

pub table_text-requires-clause-a : goal.table_text-requires-clause-a
table_text-requires-clause-a c = subst (λ (f : FinalValues). IsSingleValued f) (sym c.finals_of-2.ensures) c.requires.a

pub table_text-requires-clause-b : goal.table_text-requires-clause-b
table_text-requires-clause-b c = subst (λ (f : FinalValues). IsSingleValued f) (sym c.finals_of-3.ensures) c.requires.b

pub table_text-requires-clause-merged : goal.table_text-requires-clause-merged
table_text-requires-clause-merged c = subst (λ (f : FinalValues). IsSingleValued f) (sym c.finals_of-4.ensures) c.requires.merged
