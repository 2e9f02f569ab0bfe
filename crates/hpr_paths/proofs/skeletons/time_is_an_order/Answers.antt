use Rattle.hpr_syntax.specs.Skeleton.{skeleton}
use Rattle.hpr_paths.proofs.Different.{distinct_program}
use Rattle.hpr_paths.proofs.TimeOrder.{never_before_itself, before_trans}
use Rattle.hpr_paths.proofs.skeletons.time_is_an_order.Goals as goal

pub returns-clause-irreflexive : goal.returns-clause-irreflexive
returns-clause-irreflexive f = λ t i prog. never_before_itself (skeleton t.body) 0 (distinct_program t prog) i

pub returns-clause-transitive : goal.returns-clause-transitive
returns-clause-transitive f = λ t i j k prog. before_trans (skeleton t.body) 0 (distinct_program t prog) i j k
