use Rattle.hpr_reach.proofs.Chains.{common_front, common_reach}
use Rattle.hpr_reach.proofs.laws.common_loops.Goals as goal

pub returns-clause-front : goal.returns-clause-front
returns-clause-front c = λ s d u n w are at. common_front s are d u n at w

pub returns-clause-paths : goal.returns-clause-paths
returns-clause-paths c = λ s x d u n are at. common_reach s are d u n at x
