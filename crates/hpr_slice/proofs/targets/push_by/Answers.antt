use Rattle.std.proofs.Common.{rules}
use Rattle.hpr_slice.proofs.TargetRows.{pushed_one}
use Rattle.hpr_slice.proofs.targets.push_by.Goals as goal

pub returns-clause-rows : goal.returns-clause-rows
returns-clause-rows c = pushed_one _ _ c.args.link c.args.number (search rules) c.in_ok-push.ensures.pushed
