use Rattle.hpr_reach.proofs.Users.{pushed_row, unpushed_row}
use Rattle.hpr_reach.proofs.live.push_for.Goals as goal

pub returns-in_ok-push-in-Some-clause-rows : goal.returns-in_ok-push-in-Some-clause-rows
returns-in_ok-push-in-Some-clause-rows c = pushed_row c.args.names.now c.requires.names c.args.name.now c.args.point c.in-Some.at c.in-Some.ensures.some
    c.args.rows.now c.push.new.self c.in_ok-push-in-Some.ensures.pushed

pub returns-in-None-clause-rows : goal.returns-in-None-clause-rows
returns-in-None-clause-rows c = unpushed_row c.args.names.now c.args.name.now c.args.point c.args.rows.now c.in-None.ensures.none
