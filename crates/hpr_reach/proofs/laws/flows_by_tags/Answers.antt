use Rattle.hpr_reach.proofs.ByTags.{carried_tags, independent_tags}
use Rattle.hpr_reach.proofs.laws.flows_by_tags.Goals as goal

pub returns-clause-carried : goal.returns-clause-carried
returns-clause-carried c = λ t x p q l a z w prog na nz nl. carried_tags t prog x p q l a z w na nz nl

pub returns-clause-independent : goal.returns-clause-independent
returns-clause-independent c = λ t x p q a z loops others prog na nz nest beside. independent_tags t prog x p q a z loops others na nz nest beside
