use Rattle.hpr_paths.proofs.Stands.{count_whole}
use Rattle.hpr_paths.proofs.Tags.{tags_of_whole}
use Rattle.hpr_paths.proofs.Whole.{last_role}
use Rattle.hpr_paths.proofs.laws.points_in_order.Goals as goal

pub returns-clause-count : goal.returns-clause-count
returns-clause-count c = count_whole

pub returns-clause-last : goal.returns-clause-last
returns-clause-last c = last_role

pub returns-clause-tags : goal.returns-clause-tags
returns-clause-tags c = tags_of_whole
