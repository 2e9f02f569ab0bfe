use Rattle.hpr_build.proofs.FlowTags.{independent_by_tags, carried_by_tags}
use Rattle.hpr_build.proofs.laws.flow_edges_by_tags.Goals as goal

pub returns-clause-independent : goal.returns-clause-independent
returns-clause-independent c = λ t x p q a z prog na nz. independent_by_tags t prog p q a z na nz x

pub returns-clause-carried : goal.returns-clause-carried
returns-clause-carried c = λ t x p q l a z w prog na nz nl. carried_by_tags t prog p q a z na nz l w nl x
