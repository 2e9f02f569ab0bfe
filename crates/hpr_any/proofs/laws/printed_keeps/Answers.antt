use Rattle.hpr_any.proofs.ByReads.{by_reads_lawful}
use Rattle.hpr_any.specs.MeaningOf.{by_reads}
use Rattle.hpr_merge.proofs.NoneListed.{triples_tell}
use Rattle.hpr_engine.proofs.AnyPrintedKeeps.{printed_keeps_by, printed_keeps}
use Rattle.std.proofs.Common.{length}
use Rattle.hpr_graph.specs.Answer.{graphs_of}
use Rattle.hpr_any.proofs.laws.printed_keeps.Goals as goal

pub returns-clause-all : goal.returns-clause-all
returns-clause-all g c = λ m base vs tries p is all answer. printed_keeps_by (by_reads m) (by_reads_lawful m) (λ t. t) base vs (triples_tell (length (graphs_of vs))) tries p is all answer

pub returns-clause-two : goal.returns-clause-two
returns-clause-two g c = λ m base a b tries p is is_a is_b answer. printed_keeps (by_reads m) (by_reads_lawful m) base a b tries p is is_a is_b answer
