use Rattle.std.proofs.Common.{sym, subst}
use Rattle.hpr_syntax.specs.Run.{FinalValues}
use Rattle.hpr_report.specs.TableText.{IsSingleValued}
use Rattle.hpr_calls.proofs.running.table_of.Goals as goal

pub table_text-requires-clause-base : goal.table_text-requires-clause-base
table_text-requires-clause-base c = subst (λ (vs : FinalValues). IsSingleValued vs) (sym c.list.ensures) c.requires.base

pub table_text-requires-clause-a : goal.table_text-requires-clause-a
table_text-requires-clause-a c = subst (λ (vs : FinalValues). IsSingleValued vs) (sym c.list-2.ensures) c.requires.a

pub table_text-requires-clause-b : goal.table_text-requires-clause-b
table_text-requires-clause-b c = subst (λ (vs : FinalValues). IsSingleValued vs) (sym c.list-3.ensures) c.requires.b

pub table_text-requires-clause-merged : goal.table_text-requires-clause-merged
table_text-requires-clause-merged c = subst (λ (vs : FinalValues). IsSingleValued vs) (sym c.list-4.ensures) c.requires.merged
