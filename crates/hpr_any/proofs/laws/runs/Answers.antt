use Rattle.std.proofs.Common.{Contains}
use Rattle.hpr_graph.specs.Numbered.{graph_in}
use Rattle.hpr_any.specs.MeaningOf.{by_reads}
use Rattle.hpr_any.proofs.ByReads.{by_reads_lawful}
use Rattle.hpr_meaning.proofs.Timely.{timely}
use Rattle.hpr_meaning.proofs.Ordered.{ordered}
use Rattle.hpr_meaning.proofs.SharedSlices.{slice_shared}
use Rattle.hpr_meaning.proofs.CoveredEnd.{covered_end}
use Rattle.hpr_prune.proofs.Sliced.{listed_keeps}
use Rattle.hpr_any.proofs.laws.runs.Goals as goal

pub returns-clause-time : goal.returns-clause-time
returns-clause-time g c = λ m p s n is. timely (by_reads m) (by_reads_lawful m) p s n is

pub returns-clause-order : goal.returns-clause-order
returns-clause-order g c = λ m p s n is. ordered (by_reads m) (by_reads_lawful m) p s n is

pub returns-clause-slices : goal.returns-clause-slices
returns-clause-slices g c = λ m p q points s n k finals is_p is_q same e. slice_shared (by_reads m) (by_reads_lawful m) p q (Contains points) s n k e.0 finals is_p is_q same e.1

pub returns-clause-covered : goal.returns-clause-covered
returns-clause-covered g c = λ m p versions s is ended covered. covered_end (by_reads m) (by_reads_lawful m) p s versions is ended covered

pub returns-clause-left : goal.returns-clause-left
returns-clause-left g c = λ m p q slice s n f is sliced pruned e. listed_keeps p q (graph_in slice) is sliced pruned (by_reads m) (by_reads_lawful m) s n f e
