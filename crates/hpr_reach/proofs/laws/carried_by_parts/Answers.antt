use Rattle.hpr_reach.proofs.Flows.{loop_calm, carried_parts, carried_from_parts}
use Rattle.hpr_reach.proofs.laws.carried_by_parts.Goals as goal

pub returns-clause-parts : goal.returns-clause-parts
returns-clause-parts c = λ s x w d u steps path h. carried_parts s x w path h

pub returns-clause-whole : goal.returns-clause-whole
returns-clause-whole c = λ s x w d u is round on. carried_from_parts s x w d u (loop_calm s w x is) round on
